use Rattle.std.proofs.Common.{sym, ◌∙◌, inl, inr}
use Rattle.std.proofs.lemmas.List.Folds.{Any-from_list_any}
use Rattle.he_addr.specs.Prefix.{PrefixBits, contains}
use Rattle.he_access.proofs.Decisions.{loopback_from}
use Rattle.he_access.proofs.reach.is_served.Goals as goal

pub returns-then-is_loopback-clause-served : goal.returns-then-is_loopback-clause-served
returns-then-is_loopback-clause-served c = λ t. inl (loopback_from c.args.client (sym c.is_loopback.ensures ∙ c.if-is_loopback.true))

pub returns-else-is_loopback-clause-served : goal.returns-else-is_loopback-clause-served
returns-else-is_loopback-clause-served c = λ t. inr
    (Any-from_list_any (λ (n : PrefixBits). contains n c.args.client) c.args.allow.now (sym c.is_allowed.ensures ∙ t))
