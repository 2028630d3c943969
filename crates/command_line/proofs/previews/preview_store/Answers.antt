use Rattle.std.proofs.Common.{ℕ, List, Ok, Err, refl, subst}
use Rattle.store_text.specs.Shelved.{second_name}
use Rattle.command_line.specs.Previewing.{LoadsAny, OrMemory, PreviewsFiles, most_stored}
use Rattle.command_line.proofs.StoreEnds.{file_kind}
use Rattle.command_line.proofs.previews.preview_store.Goals as goal

pub returns-in-Ok-clause-previews : goal.returns-in-Ok-clause-previews
returns-in-Ok-clause-previews g c =
    let edit = c.args.edit.now in
    let beside = c.preview_beside in
    let old = record (c.args.outside.now) { shelf = c.load_file.new.shelf } in
    let F : List ℕ → Type 0 = λ t. OrMemory (LoadsAny g.S.Shelf most_stored (second_name edit.store)
    (λ second. PreviewsFiles g.M.Maker edit.store t second edit.request edit.day)) old beside.new.outside beside.result in
    record {
      mid = c.load_file.new.shelf;
      read = Ok c.in-Ok.first;
      reads = c.in-Ok.ensures;
      goes = subst F c.as_slice.ensures beside.ensures.previews;
    }

pub returns-in-Err-clause-previews : goal.returns-in-Err-clause-previews
returns-in-Err-clause-previews g c = record { mid = c.load_file.new.shelf; read = Err c.in-Err.refusal; reads = c.in-Err.ensures; goes = (refl, refl) }

pub returns-in-Err-clause-kind : goal.returns-in-Err-clause-kind
returns-in-Err-clause-kind g c = file_kind c.in-Err.refusal c.in-Err.ensures.kind
