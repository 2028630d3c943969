use Rattle.std.proofs.Common.{◌≡◌, ◌≤◌, ◌∙◌, ◌+◌, ◌*◌, ◌++◌, List, ℕ, sym, ap, arith}
use Rattle.text_store.specs.Frames.{base_of, frames_from, frames_of}
use Rattle.text_store.specs.Reads.{entry_of, from_place}
use Rattle.text_store.proofs.Framing.{no_frames, base_is, frames_begin, frames_more, frames_end}
use Rattle.text_store.proofs.feeding.frames_of.Goals as goal

pub returns-then-file-lt32 : goal.returns-then-file-lt32
returns-then-file-lt32 c = λ small. c.new-frames.ensures.items ∙ sym (no_frames c.args.file.now c.if-file-lt32.true)

pub loop-record-init : goal.loop-record-init
loop-record-init c =
    let file = c.args.file.now in
    let revision = c.number_at-revision.result in
    let is : revision ≡ base_of file = base_is file revision c.number_at-revision.ensures in (
      omega (arith, c.if-file-lt32.false),
      λ small. (
        ap (λ (l : List ℕ). l ++ frames_from revision (from_place file 32)) c.new-frames.ensures.items ∙ frames_begin file revision is,
        omega (arith, is),
      ),
    )

pub loop-record-preserved : goal.loop-record-preserved
loop-record-preserved c =
    let file = c.args.file.now in
    let r = c.in-Some.record in
    let behind : c.loop-record.at + 10 ≤ r.payload + r.len = c.in-Some.ensures.1 in (
      omega (arith, c.in-Some.ensures.2),
      λ small.
          let before = c.loop-record.invariant.1 small in
          let few : 10 * c.loop-record.revision ≤ 10 * base_of file + c.loop-record.at = before.1 in
          let follows : c.saturating_add-revision.result ≡ c.loop-record.revision + 1 = omega (arith, c.saturating_add-revision.ensures, few, small) in (
            frames_more c.loop-record.frames.items c.push_frame.new.frames.items (frames_of file) c.loop-record.revision c.saturating_add-revision.result (entry_of file r)
                (from_place file c.loop-record.at) (from_place file (r.payload + r.len)) c.in-Some.ensures.0 follows c.in_ok-push_frame.ensures before.0,
            omega (arith, follows, few, behind),
          ),
    )

pub returns : goal.returns
returns c = λ small.
    frames_end c.loop-record.frames.items (frames_of c.args.file.now) c.loop-record.revision (from_place c.args.file.now c.loop-record.at) c.in_default.ensures (c.loop-record.invariant.1 small).0
