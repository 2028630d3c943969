use Rattle.std.proofs.Common.{◌∙◌, ◌≤◌, ◌^◌, List, ℕ, refl, sym, ap, subst}
use Rattle.text_store.specs.Frames.{base_of, frames_of}
use Rattle.text_store.proofs.Framing.{fed, feeding, held_still}
use Rattle.text_store.proofs.Parts.{reading_on}
use Rattle.text_store.proofs.store.Store.feed.Goals as goal

pub returns-in_err-file-clause-held : goal.returns-in_err-file-clause-held
returns-in_err-file-clause-held g c = λ shown held. held_still c.args.self.now _ c.read_whole.ensures.reads refl refl refl c.read_whole.ensures.same.0 shown held

pub returns-in_err-file-clause-any_moment : goal.returns-in_err-file-clause-any_moment
returns-in_err-file-clause-any_moment g c = λ shown held tell. feeding c.args.self.now shown held g.met.D.Disk.counts_now c.read_whole.new.self.device c.read_whole.ensures.reads tell

pub returns-in_err-frames-clause-held : goal.returns-in_err-frames-clause-held
returns-in_err-frames-clause-held g c = λ shown held. held_still c.args.self.now _ c.read_whole.ensures.reads refl refl refl c.read_whole.ensures.same.0 shown held

pub returns-in_err-frames-clause-any_moment : goal.returns-in_err-frames-clause-any_moment
returns-in_err-frames-clause-any_moment g c = λ shown held tell. feeding c.args.self.now shown held g.met.D.Disk.counts_now c.read_whole.new.self.device c.read_whole.ensures.reads tell

pub returns-clause-frames : goal.returns-clause-frames
returns-clause-frames g c = λ shown held.
    c.from_vec.ensures
    ∙ fed c.args.self.now shown held c.in_ok-file.file.items c.in_ok-frames.frames.items c.in_ok-file.ensures.bytes
    (λ small. c.in_ok-frames.ensures (subst (λ (l : List ℕ). base_of l ≤ 2 ^ 62) (sym c.as_slice.ensures.value) small) ∙ ap frames_of c.as_slice.ensures.value)

pub returns-clause-held : goal.returns-clause-held
returns-clause-held g c = λ shown held. held_still c.args.self.now _ c.read_whole.ensures.reads refl refl refl c.read_whole.ensures.same.0 shown held

pub returns-clause-any_moment : goal.returns-clause-any_moment
returns-clause-any_moment g c = λ shown held tell. feeding c.args.self.now shown held g.met.D.Disk.counts_now c.read_whole.new.self.device c.read_whole.ensures.reads tell

pub returns-in_err-file-clause-records : goal.returns-in_err-file-clause-records
returns-in_err-file-clause-records g c = c.read_whole.ensures.reads.seen

pub returns-in_err-file-clause-left : goal.returns-in_err-file-clause-left
returns-in_err-file-clause-left g c shown held tell =
    reading_on c.args.self.now shown held g.met.D.Disk.counts_now tell c.read_whole.new.self.device c.read_whole.ensures.reads

pub returns-in_err-frames-clause-records : goal.returns-in_err-frames-clause-records
returns-in_err-frames-clause-records g c = c.read_whole.ensures.reads.seen

pub returns-in_err-frames-clause-left : goal.returns-in_err-frames-clause-left
returns-in_err-frames-clause-left g c shown held tell =
    reading_on c.args.self.now shown held g.met.D.Disk.counts_now tell c.read_whole.new.self.device c.read_whole.ensures.reads

pub returns-clause-records : goal.returns-clause-records
returns-clause-records g c = c.read_whole.ensures.reads.seen

pub returns-clause-left : goal.returns-clause-left
returns-clause-left g c shown held tell =
    reading_on c.args.self.now shown held g.met.D.Disk.counts_now tell c.read_whole.new.self.device c.read_whole.ensures.reads
