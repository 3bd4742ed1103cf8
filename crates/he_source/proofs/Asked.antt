-- The look-ups that a session's race begins with.
use Rattle.std.proofs.Common.{◌≡◌, ◌∙◌, List, ap, inl, inr, subst, sym, ℕ}
use Rattle.std.specs.Borrow.{Bor}
use Rattle.std.specs.Global.{Vec}
use Rattle.std.specs.Option.{option_or}
use Rattle.std.specs.Prelude.{Option, None, Some, IfSome, option_map, string_bytes}
use Rattle.he_addr.specs.declared.ip.Family.{Family}
use Rattle.he_addr.specs.declared.ip.Ip.{Ip}
use Rattle.he_setup.specs.Races.{only_of}
use Rattle.he_setup.specs.declared.request.ConnectRequest.{ConnectRequest}
use Rattle.he_resolver.specs.Begins.{BeginsFor}
use Rattle.he_resolver.specs.declared.lookup.Lookup.{Lookup}
use Rattle.he_resolver.specs.declared.lookup.Source.{Source}
use Rattle.he_settings.specs.Known.{FindsKnown, IsKnown, items_of}
use Rattle.he_kept.specs.declared.answer.KeptHost.{KeptHost}
use Rattle.he_source.specs.Kept.{AreKeptOf, BeginsBy, BeginsKnown, IsKeptOf, ips_kept}
use Rattle.he_source.specs.Sources.{IsAsked}
use Rattle.he_source.specs.declared.lookups.HostLookup.{HostLookup}
use Rattle.he_source.specs.declared.source.RaceSource.{RaceSource}

-- the addresses of the cached answers of the host
pub are_kept : (request : ConnectRequest) (kept : Option KeptHost) (found : Option (Vec Ip))
    → IfSome kept (λ known. IsKeptOf request.host.now (only_of request.families) known)
    → items_of found ≡ option_map ips_kept kept
    → IfSome found (λ ips. AreKeptOf request.host.now (only_of request.families) ips.items)
are_kept request None None is same = tt
are_kept request (Some known) None is same = tt
are_kept request None (Some ips) is same = absurd (cc same)
are_kept request (Some known) (Some ips) is same = (known, is, cc same)

module _ {R : Type 0} (request : ConnectRequest) where
  -- the look-up of a host whose known addresses these are
  pub begins_known : (host : List ℕ) (only : Option Family) (known : Option (List Ip)) (source : Source R)
      → FindsKnown host request.resolver known → BeginsKnown request host only known source
      → BeginsFor host request.resolver request.environment only source
  begins_known host only None source finds begins = begins
  begins_known host only (Some known) source (target, means, inl asks) begins = absurd (cc asks.1)
  begins_known host only (Some known) source (target, means, inr is) (ips, same, begins) =
      subst (λ (s : Source R). BeginsFor host request.resolver request.environment only s) (sym begins)
      (target, means, subst (λ (l : List Ip). IsKnown target (Some l)) (sym same) is)

  -- the look-up of the request's host, whose cached addresses come before its known ones
  pub begins_kept : (kept : Option (Vec Ip)) (shown own : Option (Bor (List Ip))) (source : Source R)
      → option_map (λ (b : Bor (List Ip)). b.now) shown ≡ items_of kept
      → IfSome kept (λ ips. AreKeptOf request.host.now (only_of request.families) ips.items)
      → FindsKnown request.host.now request.resolver (option_map (λ (b : Bor (List Ip)). b.now) own)
      → BeginsKnown request request.host.now (only_of request.families)
      (option_map (λ (b : Bor (List Ip)). b.now) (option_or shown own)) source
      → BeginsBy request source
  begins_kept None None own source same are finds begins =
      inl (begins_known request.host.now (only_of request.families) (option_map (λ (b : Bor (List Ip)). b.now) own) source
      finds begins)
  begins_kept (Some ips) (Some known) own source same are finds (held, is, begins) =
      let alike : known.now ≡ ips.items = cc in
      inr (held, subst (λ (l : List Ip). AreKeptOf request.host.now (only_of request.families) l) (sym (is ∙ alike)) are, begins)
  begins_kept None (Some known) own source same are finds begins = absurd (cc same)
  begins_kept (Some ips) None own source same are finds begins = absurd (cc same)

  -- a source that answers with such a look-up
  pub source_for : (P : Source R → Type 0) (host : List ℕ) (lookup : HostLookup R) (source : RaceSource R)
      → IsAsked lookup source → string_bytes lookup.host ≡ host → P lookup.answers.lookup.source
      → (string_bytes source.host ≡ host) × P source.answers.lookup.source
  source_for P host lookup source asked same begins = (
    asked.host ∙ same,
    subst (λ (l : Lookup R). P l.source) (sym (ap (λ a. a.lookup) asked.answers)) begins,
  )
