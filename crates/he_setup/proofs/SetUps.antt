-- The set-up of a race that embeds IPv4 hosts.
use Rattle.std.proofs.Common.{◌≡◌, ◌∙◌, true, [], inl, inr, refl, ap, subst, sym, true≢false}
use Rattle.std.specs.Global.{Vec}
use Rattle.std.specs.Prelude.{Option, Result, Ok, Err, IfOk}
use Rattle.he_addr.specs.declared.ip.Family.TheVariants as ips
use Rattle.he_addr.specs.declared.ip.Ip.{Ip}
use Rattle.he_live.specs.declared.endpoint.Endpoint.{Endpoint}
use Rattle.he_settings.specs.Known.{FindsKnown, items_of}
use Rattle.he_settings.specs.Scopes.{FindsScope}
use Rattle.he_setup.specs.declared.fault.ConnectFault.{ConnectFault}
use Rattle.he_setup.specs.declared.request.ConnectRequest.{ConnectRequest}
use Rattle.he_setup.specs.declared.request.Families.{Families}
use Rattle.he_setup.specs.declared.request.Families.TheVariants as families
use Rattle.he_setup.specs.declared.setup.Setup.{Setup}
use Rattle.he_setup.specs.Embedding.{MayEmbed, takes_six}
use Rattle.he_setup.specs.Races.{IsSetUp, KnowsHost, Tries, only_six}
use Rattle.he_setup.specs.Start.{Starts}

-- the families of a race that embeds are the requested ones, or one of both
tries_six : (wanted tried : Families) → Tries wanted tried → takes_six tried ≡ true → Tries wanted only_six
tries_six wanted tried (inr both) takes = inr both
tries_six families.Both tried (inl same) takes = inr refl
tries_six (families.Only ips.V6) tried (inl same) takes = inl refl
tries_six (families.Only ips.V4) tried (inl same) takes =
    absurd (true≢false (sym (subst (λ (f : Families). takes_six f ≡ true) same takes)))

-- what the set-up of a race that embeds is made of
pub record MadeOf (setup made : Setup) : Type 0 where
  pub request : made.request ≡ record setup.request { families = only_six }
  pub starts : Starts [] setup.request.settings only_six made.start
  pub to : made.to ≡ setup.to
  pub known : made.known ≡ setup.known

is_embedded_set_up : (request : ConnectRequest) (setup made : Setup) → IsSetUp request setup → MayEmbed true setup.request
    → MadeOf setup made → IsSetUp request made
is_embedded_set_up request setup made is (takes, machine) of =
    let tried : setup.request.families ≡ is.tried = ap (λ (r : ConnectRequest). r.families) is.same in
    record {
      tried = only_six;
      begins = record {
        tries = tries_six request.families is.tried is.begins.tries (ap takes_six (sym tried) ∙ takes);
        lines = [];
        starts = subst (λ (r : ConnectRequest). Starts [] r.settings only_six made.start) is.same of.starts;
        port = ap (λ (e : Endpoint). e.port) of.to ∙ is.begins.port;
        scope = subst (λ (e : Endpoint). FindsScope request.host.now e.scope) (sym of.to) is.begins.scope;
      };
      same = of.request ∙ ap (λ (r : ConnectRequest). record r { families = only_six }) is.same;
    }

pub made_so : (setup : Setup) (result : Result Setup ConnectFault)
    → IfOk result (λ made. made.request ≡ record setup.request { families = only_six })
    → IfOk result (λ made. Starts [] setup.request.settings only_six made.start)
    → IfOk result (λ made. made.to ≡ setup.to) → IfOk result (λ made. made.known ≡ setup.known) → IfOk result (MadeOf setup)
made_so setup (Ok made) request starts to known = record { request = request; starts = starts; to = to; known = known }
made_so setup (Err fault) request starts to known = tt

knows_embedded : (setup made : Setup) → MadeOf setup made → KnowsHost setup → KnowsHost made
knows_embedded setup made of knows =
    subst (λ (r : ConnectRequest). FindsKnown r.host.now r.resolver (items_of made.known)) (sym of.request)
    (subst (λ (k : Option (Vec Ip)). FindsKnown setup.request.host.now setup.request.resolver (items_of k)) (sym of.known) knows)

-- so for what comes of the set-up that embeds, if any
pub all_set_up : (request : ConnectRequest) (setup : Setup) (result : Result Setup ConnectFault) → IsSetUp request setup
    → MayEmbed true setup.request → IfOk result (MadeOf setup) → IfOk result (IsSetUp request)
all_set_up request setup (Ok made) is may of = is_embedded_set_up request setup made is may of
all_set_up request setup (Err fault) is may of = tt

pub all_known : (setup : Setup) (result : Result Setup ConnectFault) → KnowsHost setup → IfOk result (MadeOf setup)
    → IfOk result KnowsHost
all_known setup (Ok made) knows of = knows_embedded setup made of knows
all_known setup (Err fault) knows of = tt
