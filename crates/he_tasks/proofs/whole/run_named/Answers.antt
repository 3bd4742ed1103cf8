use Rattle.std.proofs.Common.{◌∙◌, ap, inl, map, refl, subst, sym}
use Rattle.std.specs.Prelude.{string_bytes}
use Rattle.he_tasks.specs.Directories.{AreFilesOf}
use Rattle.he_tasks.proofs.whole.run_named.Goals as goal

pub returns : goal.returns
returns g c =
    let names = c.in-Ok-names_of.names in
    let same = c.in-Ok-names_of.ensures ∙ ap (map string_bytes) c.deref.ensures.value in
    let are = subst (λ files. AreFilesOf (map (λ name. name.now) c.as_slice.result.now) files) (sym same) c.in-Ok.ensures.are in
    let files = subst (λ given. AreFilesOf (map (λ name. name.now) given) (map (λ name. name.now) names.items)) c.as_slice.ensures.value are in
    inl (record c.args.texts { files = names }, record { files = files; others = refl }, c.run_files.ensures)
