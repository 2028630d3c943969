use Rattle.std.proofs.Common.{rules, ◌≡◌, ◌∷◌, [], ◌++◌, ◌∙◌, ap, arith, length-append}
use Rattle.hl_base.specs.Calls.{step_of, history}
use Rattle.hl_base.specs.History.{Recorded}
use Rattle.hl_base.proofs.CallRecords.{written-push, history-push}
use Rattle.hl_base.proofs.disk_record.Record.add.Goals as goal

pub invariant_of-self-else-is_err-2 : goal.invariant_of-self-else-is_err-2
invariant_of-self-else-is_err-2 c =
    let calls_are : c.push.new.self.items ≡ c.self.inside.calls.items ++ c.args.call ∷ [] = search rules in
    let pieces_are : c.extend_from_slice.new.self.items ≡ c.self.inside.pieces.items ++ c.args.piece.now = search rules in
    rw (calls_are, pieces_are) (omega (arith, c.self.invariant, written-push c.self.inside.calls.items c.args.call, length-append c.self.inside.pieces.items c.args.piece.now))

pub returns : goal.returns
returns c =
    let calls_are : c.push.new.self.items ≡ c.self.inside.calls.items ++ c.args.call ∷ [] = search rules in
    let pieces_are : c.extend_from_slice.new.self.items ≡ c.self.inside.pieces.items ++ c.args.piece.now = search rules in
    let steps : history [] c.push.new.self.items c.extend_from_slice.new.self.items ≡ step_of c.args.call c.args.piece.now ∷ c.args.self.now.steps =
    (λ i. history [] (calls_are i) (pieces_are i))
    ∙ history-push [] c.self.inside.calls.items c.self.inside.pieces.items c.args.call c.args.piece.now c.self.invariant c.requires
    ∙ ap (λ (v : Recorded). step_of c.args.call c.args.piece.now ∷ v.steps) c.self.view_is in
    λ i. record { first = (c.self.view_is i).first; steps = steps i }
