use Rattle.std.proofs.Common.{rules, ℕ, Vec, Global}
use Rattle.he_dns.specs.Texts.{SpellsName}
use Rattle.he_settings.specs.Plans.{SpellsNone}
use Rattle.he_settings.proofs.Standing.{all_stand, none_stands, one_stands}
use Rattle.he_settings.proofs.plan.spelled.Goals as goal
use Rattle.he_settings.proofs.plan.spelled.Goals.{in-Ok+in_ok-push-in-Ok, in-Err+in_ok-pass_over-in-Err}

pub loop-text-preserved : goal.loop-text-preserved
loop-text-preserved c = elim c.match-read.branch [
  | in-Ok+in_ok-push-in-Ok w ↦
      one_stands SpellsName SpellsNone (λ (text : Vec ℕ Global). text.items) c.args.texts.now c.loop-text.text-index c.text-item.result
      (search rules) (search rules) c.loop-text.names.items w.in-Ok.name c.match-read.names.items (search rules) (search rules) c.loop-text.invariant
  | in-Err+in_ok-pass_over-in-Err w ↦
      none_stands SpellsName SpellsNone (λ (text : Vec ℕ Global). text.items) c.args.texts.now c.loop-text.text-index c.text-item.result
      (search rules) (search rules) c.loop-text.names.items c.match-read.names.items (search rules) (w.in-Err.fault, search rules, search rules) c.loop-text.invariant
]

pub returns : goal.returns
returns c =
    all_stand SpellsName SpellsNone (λ (text : Vec ℕ Global). text.items) c.args.texts.now c.loop-text.text-index c.loop-text-test.false c.loop-text.names.items
    c.loop-text.invariant
