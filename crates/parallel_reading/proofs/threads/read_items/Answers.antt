use Rattle.std.proofs.Common.{ap}
use Rattle.std.proofs.lemmas.Result.{err_from_is_err_and}
use Rattle.hl_base.specs.Counts.{Counts}
use Rattle.parallel_reading.proofs.Alike.{all_told, back_stops_all, front_stops_all}
use Rattle.parallel_reading.proofs.Runs.{bytes_after, bytes_same, bytes_within}
use Rattle.parallel_reading.proofs.threads.read_items.Goals as goal

pub returns-in_err-before-clause-value : goal.returns-in_err-before-clause-value
returns-in_err-before-clause-value g c =
    let p = err_from_is_err_and c.from_residual.result c.from_residual.ensures.1 in
    rw (p.1, p.2)
    (front_stops_all c.in_err-before.field-0.0 c.args.year c.args.text.now c.args.pieces.now c.cut_behind_heads.result.0.now c.cut_behind_heads.result.1.now c.cut_behind_heads.ensures.whole c.in_err-before.ensures.value)

pub returns-in_err-before-clause-bound : goal.returns-in_err-before-clause-bound
returns-in_err-before-clause-bound g c =
    bytes_within c.args.pieces.now c.cut_behind_heads.result.0.now c.cut_behind_heads.result.1.now c.args.steps.now.bytes_read c.read_items-2.new.steps.bytes_read c.cut_behind_heads.ensures.whole c.in_err-before.ensures.bound

pub returns-in_err-items-clause-value : goal.returns-in_err-items-clause-value
returns-in_err-items-clause-value g c =
    let p = err_from_is_err_and c.from_residual-in_err-items.result c.from_residual-in_err-items.ensures.1 in
    rw (p.1, p.2)
    (back_stops_all c.in_err-items.field-0.0 c.args.year c.args.text.now c.args.pieces.now c.cut_behind_heads.result.0.now c.cut_behind_heads.result.1.now c.in_ok-before.before c.into_vec.result.items
    c.cut_behind_heads.ensures.whole c.in_ok-before.ensures.value c.into_vec.ensures c.in_err-items.ensures)

pub returns-in_err-items-clause-bound : goal.returns-in_err-items-clause-bound
returns-in_err-items-clause-bound g c =
    bytes_same _ _
    (bytes_after c.args.pieces.now c.cut_behind_heads.result.0.now c.cut_behind_heads.result.1.now c.args.steps.now.bytes_read c.read_items-2.new.steps.bytes_read c.count_bytes.new.steps.bytes_read c.cut_behind_heads.ensures.whole
    c.in_ok-before.ensures.read (ap (λ (s : Counts). s.bytes_read) c.count_bytes.ensures))

pub returns-clause-value : goal.returns-clause-value
returns-clause-value g c =
    all_told c.args.year c.args.text.now c.args.pieces.now c.cut_behind_heads.result.0.now c.cut_behind_heads.result.1.now c.in_ok-before.before c.into_vec.result.items c.in_ok-items.items.items c.from_vec.result
    c.cut_behind_heads.ensures.whole c.in_ok-before.ensures.value c.into_vec.ensures c.in_ok-items.ensures c.from_vec.ensures

pub returns-clause-read : goal.returns-clause-read
returns-clause-read g c =
    bytes_after c.args.pieces.now c.cut_behind_heads.result.0.now c.cut_behind_heads.result.1.now c.args.steps.now.bytes_read c.read_items-2.new.steps.bytes_read c.count_bytes.new.steps.bytes_read c.cut_behind_heads.ensures.whole
    c.in_ok-before.ensures.read (ap (λ (s : Counts). s.bytes_read) c.count_bytes.ensures)

pub returns-clause-bound : goal.returns-clause-bound
returns-clause-bound g c =
    bytes_same _ _
    (bytes_after c.args.pieces.now c.cut_behind_heads.result.0.now c.cut_behind_heads.result.1.now c.args.steps.now.bytes_read c.read_items-2.new.steps.bytes_read c.count_bytes.new.steps.bytes_read c.cut_behind_heads.ensures.whole
    c.in_ok-before.ensures.read (ap (λ (s : Counts). s.bytes_read) c.count_bytes.ensures))
