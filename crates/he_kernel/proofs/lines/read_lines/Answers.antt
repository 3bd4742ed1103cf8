use Rattle.std.proofs.Common.{rules}
use Rattle.he_kernel.specs.declared.parts.Cut.TheVariants.{Lines}
use Rattle.he_kernel.specs.Parts.{is_mark}
use Rattle.he_kernel.proofs.Cutting.{few_parts}
use Rattle.he_kernel.proofs.lines.read_lines.Goals as goal

pub loop-part-init : goal.loop-part-init
unfolding Rattle.he_kernel.specs.Lines.numbered
loop-part-init g c =
    let few = few_parts (is_mark Lines) c.args.text.now in
    search rules
