use Rattle.std.proofs.Common.{ℕ, List, Result, Err, refl, subst}
use Rattle.refusals.specs.declared.refusal.Refusal.{Refusal}
use Rattle.command_line.specs.Previewing.{PreviewsFiles}
use Rattle.command_line.specs.StoreTasks.{Goes}
use Rattle.command_line.proofs.StoreEnds.{file_kind}
use Rattle.command_line.proofs.previews.preview_named.Goals as goal

pub returns-in-Ok-clause-previews : goal.returns-in-Ok-clause-previews
returns-in-Ok-clause-previews g c =
    let edit = c.args.edit.now in
    let load = c.load_file-read in
    let old = record (c.args.outside.now) { shelf = load.new.shelf } in
    let new = c.preview_files.new.outside in
    let F : List ℕ → Type 0 = λ t. PreviewsFiles g.M.Maker edit.store c.args.first.now t edit.request edit.day old new c.preview_files.result in
    record {
      mid = load.new.shelf;
      read = load.result;
      reads = load.ensures;
      goes = subst (λ (x : Result (List ℕ) Refusal).
          Goes (λ second. PreviewsFiles g.M.Maker edit.store c.args.first.now second edit.request edit.day) x old new c.preview_files.result)
          c.in-Ok.ensures.is (subst F c.as_slice.ensures c.preview_files.ensures.previews);
    }

pub returns-in-Err-clause-previews : goal.returns-in-Err-clause-previews
returns-in-Err-clause-previews g c =
    let edit = c.args.edit.now in
    let load = c.load_file-read in
    let old = record (c.args.outside.now) { shelf = load.new.shelf } in
    let refused : Result (List ℕ) Refusal = Err c.in-Err.refusal in
    record {
      mid = load.new.shelf;
      read = load.result;
      reads = load.ensures;
      goes = subst (λ (x : Result (List ℕ) Refusal).
          Goes (λ second. PreviewsFiles g.M.Maker edit.store c.args.first.now second edit.request edit.day) x old old refused)
          c.in-Err.ensures.is (refl, refl);
    }

pub returns-in-Err-clause-kind : goal.returns-in-Err-clause-kind
returns-in-Err-clause-kind g c = file_kind c.in-Err.refusal c.in-Err.ensures.kind
