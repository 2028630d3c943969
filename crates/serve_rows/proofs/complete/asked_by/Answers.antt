use Rattle.std.proofs.Common.{◌≡◌, ◌∙◌, true, Ok, sym}
use Rattle.serve_line.specs.Words.{is_serve, serve_read}
use Rattle.serve_rows.proofs.Houses.{beside}
use Rattle.serve_rows.proofs.complete.asked_by.Goals as goal

pub returns-then-begins : goal.returns-then-begins
returns-then-begins c =
    beside (is_serve c.args.words.now ≡ true) (λ k. serve_read c.args.page.now c.args.words.now ≡ Ok k) (λ k. k.crew.workers ≡ 1) c.read_one.result
    (sym c.begins.ensures ∙ c.if-begins.true) c.read_one.ensures
