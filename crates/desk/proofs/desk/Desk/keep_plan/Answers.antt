use Rattle.std.proofs.Common.{inl, inr, ℕ, ◌+◌, ◌≡◌, ◌≤◌, true, List, length, Option, Some, None, IfSome, refl, ap, sym, subst, ◌∙◌, arith}
use Rattle.std.specs.Option.{unwrap_or}
use Rattle.hl_base.specs.declared.change.Latest.{Latest}
use Rattle.live_journal.specs.Journals.{Journal, Planned}
use Rattle.text_store.specs.declared.change.Change.{Change}
use Rattle.text_store.specs.declared.image.Image.{Image}
use Rattle.text_store.specs.Changes.{HasShortName}
use Rattle.text_store.specs.Edits.{edited, whole_size}
use Rattle.text_store.specs.Stores.{Holds, disks, fault_count, limit_of, size_of}
use Rattle.desk.specs.declared.reply.Reply.TheVariants as reply
use Rattle.desk.specs.Desks.{shown_by, state_of}
use Rattle.desk.specs.Keeping.{are_writable, room_size}
use Rattle.desk.specs.States.{edited_state, image_of, many_states, or_done, record_size}
use Rattle.desk.proofs.Done.{left_fault, left_memory, put_so, sized, state_as, stays_so}
use Rattle.desk.proofs.Edited.{edited_is, short_name, states_writable}
use Rattle.desk.proofs.Rooms.{has_room, roomed}
use Rattle.desk.proofs.Still.{by_parts}
use Rattle.desk.proofs.desk.Desk.keep_plan.Goals as goal

pub keep-requires-clause-name : goal.keep-requires-clause-name
keep-requires-clause-name g c =
    let old = c.args.self.now in
    let d = c.args.deed.now in
    let r = roomed (state_of old) d.mark c.args.states (record_size c.args.change.now) (omega arith) (omega arith) c.requires.room in
    subst (λ (x : Change). HasShortName x) (sym c.requires.change) (short_name old.live.text d.edit d.mark r.name)

pub keep-requires-clause-record_size : goal.keep-requires-clause-record_size
keep-requires-clause-record_size g c =
    let old = c.args.self.now in
    let r = roomed (state_of old) c.args.deed.now.mark c.args.states (record_size c.args.change.now) (omega arith) (omega arith) c.requires.room in
    c.record_size-size.ensures ∙ r.told

pub keep-requires-clause-revision : goal.keep-requires-clause-revision
keep-requires-clause-revision g c =
    let old = c.args.self.now in
    (roomed (state_of old) c.args.deed.now.mark c.args.states (record_size c.args.change.now) (omega arith) (omega arith) c.requires.room).revision

pub keep-requires-clause-room : goal.keep-requires-clause-room
keep-requires-clause-room g c =
    let old = c.args.self.now in
    let s = state_of old in
    let r = roomed s c.args.deed.now.mark c.args.states (record_size c.args.change.now) (omega arith) (omega arith) c.requires.room in
    let whole = whole_size (shown_by old) in
    let F : ℕ → Type 0 = λ n. room_size (size_of old.store) (limit_of old.store) n whole + n ≤ limit_of old.store in
    subst F (sym (c.record_size-size.ensures ∙ r.told)) (has_room s (record_size c.args.change.now) r.room)

pub put_states-requires : goal.put_states-requires
put_states-requires g c =
    let old = c.args.self.now in
    let d = c.args.deed.now in
    let r = roomed (state_of old) d.mark c.args.states (record_size c.args.change.now) (omega arith) (omega arith) c.requires.room in
    subst (λ (o : Option (List Latest)). IfSome o (λ made. are_writable made ≡ true)) (sym c.requires.states)
    (states_writable d.mark old.latest old.writable r.name (subst (λ (o : Option (List Latest)). many_states o ≡ None) c.requires.states r.few))

pub returns-in-Ok-clause-served : goal.returns-in-Ok-clause-served
returns-in-Ok-clause-served g c =
    let old = c.args.self.now in
    let d = c.args.deed.now in
    let s = state_of old in
    let r = roomed s d.mark c.args.states (record_size c.args.change.now) (omega arith) (omega arith) c.requires.room in
    let plan = c.requires.plan in
    let inside = subst (λ (p : Planned). p.splice.at + p.splice.removed ≤ length old.live.text) plan c.requires.inside in
    let few = subst (λ (o : Option (List Latest)). many_states o ≡ None) c.requires.states r.few in
    let is = ap (edited (shown_by old)) c.requires.change ∙ edited_is s d.edit d.mark inside few in
    let size = c.record_size-size.ensures ∙ r.told ∙ ap record_size c.requires.change in
    let live = c.put_boxed.ensures ∙ put_so c.args.plan old.live.revision c.requires.differs in
    let whole = whole_size (shown_by old) in
    let grows = c.in-Ok.ensures.size ∙ ap (λ (n : ℕ). room_size (size_of old.store) (limit_of old.store) n whole + n) size in
    let latest = ap (λ (o : Option (List Latest)). unwrap_or o old.latest) c.requires.states in
    let state = state_as s d c.put_boxed.new.live _ _ _ (ap (λ (j : Journal). j.text) live ∙ ap (λ (p : Planned). p.text) plan) (ap (λ (j : Journal). j.revision) live) latest grows c.keep.ensures.goes_on.limit in
    let next = image_of (edited_state s d) in
    let done = c.revision-revision.ensures ∙ ap (λ (j : Journal). j.revision) (c.put_states.ensures.live ∙ live) in
    by_parts (or_done s d None) (Some d) old (reply.Done c.revision-revision.result) c.put_states.new.self c.keep.new.store c.put_boxed.new.live (unwrap_or c.args.states old.latest) old.allow
    c.put_states.ensures.store c.put_states.ensures.live c.put_states.ensures.latest c.put_states.ensures.allowed
    (inl (ap reply.Done done, state, c.in-Ok.ensures.no_fault))
    (λ pending stands.
    let k = c.in-Ok.ensures.held (shown_by old) next pending refl stands is in
    (None, inl refl, inl (k.0, subst (λ (i : Image). Holds c.keep.new.store i) (ap image_of (sym state)) k.1)))
    (λ pending stands tell. c.keep.ensures.any_moment (shown_by old) next pending refl stands is tell)
    c.keep.ensures.goes_on.keeps c.keep.ensures.goes_on.no_wider

pub returns-in-Err-Memory-clause-served : goal.returns-in-Err-Memory-clause-served
returns-in-Err-Memory-clause-served g c =
    let old = c.args.self.now in
    let d = c.args.deed.now in
    let s = state_of old in
    let r = roomed s d.mark c.args.states (record_size c.args.change.now) (omega arith) (omega arith) c.requires.room in
    let plan = c.requires.plan in
    let inside = subst (λ (p : Planned). p.splice.at + p.splice.removed ≤ length old.live.text) plan c.requires.inside in
    let few = subst (λ (o : Option (List Latest)). many_states o ≡ None) c.requires.states r.few in
    let is = ap (edited (shown_by old)) c.requires.change ∙ edited_is s d.edit d.mark inside few in
    let size = c.record_size-size.ensures ∙ r.told ∙ ap record_size c.requires.change in
    let whole = whole_size (shown_by old) in
    let sizes = sized _ _ _ _ (ap (λ (n : ℕ). room_size (size_of old.store) (limit_of old.store) n whole) size) c.in-Err-Memory.ensures.torn_size in
    let cause = rw c.in-Err-Memory.field-0-is at c.in-Err-Memory.ensures.cause in
    let next = image_of (edited_state s d) in
    record {
      gives = inr (inl (refl, stays_so s (Some d) _ _ c.keep.ensures.goes_on.limit sizes, cause));
      stands = λ pending stands.
          let k = rw c.in-Err-Memory.field-0-is at (c.in-Err-Memory.ensures.torn (shown_by old) next pending refl stands is) in
          (k.0, left_memory next pending k.0 k.1, k.2);
      crash = λ pending stands tell. c.keep.ensures.any_moment (shown_by old) next pending refl stands is tell;
      keeps = c.keep.ensures.goes_on.keeps;
      no_wider = c.keep.ensures.goes_on.no_wider;
    }

pub returns-clause-served : goal.returns-clause-served
returns-clause-served g c =
    let old = c.args.self.now in
    let d = c.args.deed.now in
    let s = state_of old in
    let r = roomed s d.mark c.args.states (record_size c.args.change.now) (omega arith) (omega arith) c.requires.room in
    let plan = c.requires.plan in
    let inside = subst (λ (p : Planned). p.splice.at + p.splice.removed ≤ length old.live.text) plan c.requires.inside in
    let few = subst (λ (o : Option (List Latest)). many_states o ≡ None) c.requires.states r.few in
    let is = ap (edited (shown_by old)) c.requires.change ∙ edited_is s d.edit d.mark inside few in
    let size = c.record_size-size.ensures ∙ r.told ∙ ap record_size c.requires.change in
    let whole = whole_size (shown_by old) in
    let sizes = sized _ _ _ _ (ap (λ (n : ℕ). room_size (size_of old.store) (limit_of old.store) n whole) size) c.in-Err-DiskFault.ensures.torn_size in
    let cause = rw c.in-Err-DiskFault.field-0-is at c.in-Err-DiskFault.ensures.cause in
    let next = image_of (edited_state s d) in
    rw (c.faults-before.ensures, c.faults-after.ensures) (record {
      gives = inr (inr (inl (refl, refl, cause, stays_so s (Some d) _ _ c.keep.ensures.goes_on.limit sizes)));
      stands = λ pending stands.
          let k = rw c.in-Err-DiskFault.field-0-is at (c.in-Err-DiskFault.ensures.torn (shown_by old) next pending refl stands is) in
          (k.0, left_fault next (fault_count g.D.Disk (disks old.store)) (fault_count g.D.Disk (disks c.keep.new.store)) pending k.0 k.1, k.2);
      crash = λ pending stands tell. c.keep.ensures.any_moment (shown_by old) next pending refl stands is tell;
      keeps = c.keep.ensures.goes_on.keeps;
      no_wider = c.keep.ensures.goes_on.no_wider;
    })
