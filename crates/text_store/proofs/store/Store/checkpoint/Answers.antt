use Rattle.std.proofs.Common.{refl, ◌≡◌, ◌∙◌, ◌+◌, ◌++◌, ◌∷◌, [], List, ℕ, length, inl, sym, ap, subst, arith, Some, not, append_assoc}
use Rattle.std.proofs.lemmas.Result.{err_from_is_err_and}
use Rattle.text_store.specs.Entries.{body}
use Rattle.text_store.specs.Files.{header, whole_payload, next_generation}
use Rattle.hl_base.specs.Disk.{LeavesOnly}
use Rattle.text_store.specs.declared.half.Half.{Half}
use Rattle.text_store.specs.Rest.{RestsAs, StandsIn, IsRewritten}
use Rattle.text_store.specs.Stores.{limit_of, disks, bounds, Throughout, ShowsEither, Keeps}
use Rattle.text_store.proofs.Appending.{live_calm, due_either}
use Rattle.text_store.proofs.Both.{stays}
use Rattle.text_store.proofs.HalfImages.{length_record}
use Rattle.text_store.proofs.Holding.{leads_on}
use Rattle.text_store.proofs.Rewriting.{rewriting, rewrite_torn, rewrite_done, disks_spare, disks_turned, rose_spare, keeps_spare}
use Rattle.text_store.specs.Settled.{IsSettled}
use Rattle.text_store.specs.Standing.{StandFor, record_bytes, rewrite_of}
use Rattle.text_store.proofs.Parts.{rewriting_on, still_rewrite}
use Rattle.text_store.proofs.Wholes.{length_whole}
use Rattle.text_store.proofs.store.Store.checkpoint.Goals as goal

pub returns-then-size-limit-clause-any_moment : goal.returns-then-size-limit-clause-any_moment
returns-then-size-limit-clause-any_moment g c shown held tell = stays g.D.Disk (disks c.args.self.now) _ (λ first second of_first of_second. inl (held.shows tell first second of_first of_second))

pub returns-in_err-header-clause-any_moment : goal.returns-in_err-header-clause-any_moment
returns-in_err-header-clause-any_moment g c shown held tell = stays g.D.Disk (disks c.args.self.now) _ (λ first second of_first of_second. inl (held.shows tell first second of_first of_second))

pub returns-in_err-entry-clause-any_moment : goal.returns-in_err-entry-clause-any_moment
returns-in_err-entry-clause-any_moment g c shown held tell = stays g.D.Disk (disks c.args.self.now) _ (λ first second of_first of_second. inl (held.shows tell first second of_first of_second))

pub returns-in_err-rewrite_spare-clause-any_moment : goal.returns-in_err-rewrite_spare-clause-any_moment
returns-in_err-rewrite_spare-clause-any_moment g c shown held tell =
    let old = c.args.self.now in
    let new = c.rewrite_spare.new.self in
    let next = c.args.image.now in
    let moves = c.rewrite_spare.ensures.moves in
    let size = length_whole next in
    let head : c.deref.result.now ≡ header c.limit-limit.result (next_generation old.generation) next.revision ++ 0 ∷ [] =
    c.deref.ensures.value ∙ c.in_ok-header.ensures ∙ ap (λ (n : ℕ). header c.limit-limit.result n next.revision ++ 0 ∷ []) c.following-generation.ensures in
    let entry : c.deref-2.result.now ≡ body 67 (whole_payload next) ++ 0 ∷ [] = c.deref-2.ensures.value ∙ c.in_ok-entry.ensures.bytes in
    subst (λ (d : _). Throughout g.D.Disk (disks old) d (ShowsEither shown next)) (sym (disks_spare old new moves.0 moves.1))
    (rewriting old c.limit-limit.result shown next held (omega (arith, c.limit-limit.type_inv)) c.requires.revision c.requires.writable c.in_ok-entry.ensures.are_states
    (omega (arith, size, c.in_ok-entry.ensures.fits)) new.spare g.met.D.Disk.counts_now tell
    (λ telling. subst (λ (l : List ℕ). LeavesOnly g.D.Disk.moment g.D.Disk.left_since old.spare new.spare (IsRewritten held.beside (header c.limit-limit.result (next_generation old.generation) next.revision) l)) entry
    (c.rewrite_spare.ensures.any_moment held.beside (header c.limit-limit.result (next_generation old.generation) next.revision) head held.rests telling)))

pub returns-in_err-rewrite_spare-clause-fault : goal.returns-in_err-rewrite_spare-clause-fault
returns-in_err-rewrite_spare-clause-fault g c is_fault shown held =
    let old = c.args.self.now in
    let new = c.rewrite_spare.new.self in
    let next = c.args.image.now in
    let moves = c.rewrite_spare.ensures.moves in
    let size = length_whole next in
    let head : c.deref.result.now ≡ header c.limit-limit.result (next_generation old.generation) next.revision ++ 0 ∷ [] =
    c.deref.ensures.value ∙ c.in_ok-header.ensures ∙ ap (λ (n : ℕ). header c.limit-limit.result n next.revision ++ 0 ∷ []) c.following-generation.ensures in
    let entry : c.deref-2.result.now ≡ body 67 (whole_payload next) ++ 0 ∷ [] = c.deref-2.ensures.value ∙ c.in_ok-entry.ensures.bytes in
    rewrite_torn old c.limit-limit.result shown next held (omega (arith, c.limit-limit.type_inv)) c.requires.revision c.requires.writable c.in_ok-entry.ensures.are_states
    (omega (arith, size, c.in_ok-entry.ensures.fits)) new moves.1 moves.2 moves.0
    (ap (λ (h : Half _ g.D.Disk). h.is_torn) moves.0 ∙ live_calm old.is_torn old.live.is_torn c.requires.ready, c.in_err-rewrite_spare.ensures.due)
    (subst (λ (l : List ℕ). StandsIn g.D.Disk.seen g.D.Disk.tells_crashes g.D.Disk.may_leave new.spare (IsRewritten held.beside (header c.limit-limit.result (next_generation old.generation) next.revision) l)) entry
    (c.in_err-rewrite_spare.ensures.fault held.beside (header c.limit-limit.result (next_generation old.generation) next.revision) head held.rests))

pub returns-in_err-rewrite_spare-clause-cause : goal.returns-in_err-rewrite_spare-clause-cause
returns-in_err-rewrite_spare-clause-cause g c =
    let old = c.args.self.now in
    let new = c.rewrite_spare.new.self in
    let moves = c.rewrite_spare.ensures.moves in
    let p = err_from_is_err_and c.from_residual-in_err-rewrite_spare.result c.from_residual-in_err-rewrite_spare.ensures.1 in
    rw (p.1, p.2) (
      omega (arith, c.if-size-limit.false, c.whole_len-size.ensures, c.in_ok-entry.ensures.fits, c.limit-limit.ensures),
      rose_spare old new moves.0 moves.1 c.in_err-rewrite_spare.ensures.cause.rose,
      due_either new.is_torn new.live.is_torn c.in_err-rewrite_spare.ensures.due,
    )

pub returns-in_err-rewrite_spare-clause-keeps : goal.returns-in_err-rewrite_spare-clause-keeps
returns-in_err-rewrite_spare-clause-keeps g c =
    let next = c.args.image.now in
    let moves = c.rewrite_spare.ensures.moves in
    let entry = c.deref-2.ensures.value ∙ c.in_ok-entry.ensures.bytes in
    keeps_spare c.args.self.now c.rewrite_spare.new.self moves.0 moves.1 (33 + length c.deref-2.result.now)
    (omega (arith, c.if-size-limit.false, c.whole_len-size.ensures, c.in_ok-entry.ensures.fits, c.limit-limit.ensures, length_whole next, length_record 67 (whole_payload next), ap length entry))
    c.rewrite_spare.ensures.tells c.rewrite_spare.ensures.unfailing c.rewrite_spare.ensures.reach c.rewrite_spare.ensures.cause.later

pub returns-clause-any_moment : goal.returns-clause-any_moment
returns-clause-any_moment g c shown held tell =
    let old = c.args.self.now in
    let new = c.rewrite_spare.new.self in
    let next = c.args.image.now in
    let moves = c.rewrite_spare.ensures.moves in
    let size = length_whole next in
    let head : c.deref.result.now ≡ header c.limit-limit.result (next_generation old.generation) next.revision ++ 0 ∷ [] =
    c.deref.ensures.value ∙ c.in_ok-header.ensures ∙ ap (λ (n : ℕ). header c.limit-limit.result n next.revision ++ 0 ∷ []) c.following-generation.ensures in
    let entry : c.deref-2.result.now ≡ body 67 (whole_payload next) ++ 0 ∷ [] = c.deref-2.ensures.value ∙ c.in_ok-entry.ensures.bytes in
    subst (λ (d : _). Throughout g.D.Disk (disks old) d (ShowsEither shown next)) (sym (disks_turned new c.turn.new.self c.turn.ensures.disks c.turn.ensures.place ∙ disks_spare old new moves.0 moves.1))
    (rewriting old c.limit-limit.result shown next held (omega (arith, c.limit-limit.type_inv)) c.requires.revision c.requires.writable c.in_ok-entry.ensures.are_states
    (omega (arith, size, c.in_ok-entry.ensures.fits)) new.spare g.met.D.Disk.counts_now tell
    (λ telling. subst (λ (l : List ℕ). LeavesOnly g.D.Disk.moment g.D.Disk.left_since old.spare new.spare (IsRewritten held.beside (header c.limit-limit.result (next_generation old.generation) next.revision) l)) entry
    (c.rewrite_spare.ensures.any_moment held.beside (header c.limit-limit.result (next_generation old.generation) next.revision) head held.rests telling)))

pub returns-clause-acknowledged : goal.returns-clause-acknowledged
returns-clause-acknowledged g c shown held =
    let old = c.args.self.now in
    let mid = c.rewrite_spare.new.self in
    let new = c.turn.new.self in
    let next = c.args.image.now in
    let moves = c.rewrite_spare.ensures.moves in
    let size = length_whole next in
    let head : c.deref.result.now ≡ header c.limit-limit.result (next_generation old.generation) next.revision ++ 0 ∷ [] =
    c.deref.ensures.value ∙ c.in_ok-header.ensures ∙ ap (λ (n : ℕ). header c.limit-limit.result n next.revision ++ 0 ∷ []) c.following-generation.ensures in
    let entry : c.deref-2.result.now ≡ body 67 (whole_payload next) ++ 0 ∷ [] = c.deref-2.ensures.value ∙ c.in_ok-entry.ensures.bytes in
    let head_bytes = header c.limit-limit.result (next_generation old.generation) next.revision in
    let written = c.in_ok-rewrite_spare.ensures.done held.beside head_bytes head held.rests in
    rewrite_done old c.limit-limit.result shown next held (omega (arith, c.limit-limit.type_inv)) c.requires.revision c.requires.writable c.in_ok-entry.ensures.are_states
    (omega (arith, size, c.in_ok-entry.ensures.fits)) new
    (c.turn.ensures.place ∙ ap not moves.1) (c.turn.ensures.numbers.2 ∙ c.following-generation.ensures) (c.turn.ensures.disks.1 ∙ ap (λ (h : Half _ g.D.Disk). h.device) moves.0)
    (omega (arith, c.turn.ensures.numbers.0, c.whole_len-size.ensures, c.in_ok-entry.ensures.fits, size, length_record 67 (whole_payload next)))
    (subst (λ (d : _). RestsAs g.D.Disk.seen g.D.Disk.tells_crashes g.D.Disk.may_leave d (head_bytes ++ 1 ∷ (body 67 (whole_payload next) ++ 0 ∷ []))) (sym c.turn.ensures.disks.0)
    (subst (λ (l : List ℕ). RestsAs g.D.Disk.seen g.D.Disk.tells_crashes g.D.Disk.may_leave mid.spare (head_bytes ++ 1 ∷ l)) entry written))

pub returns-clause-size : goal.returns-clause-size
returns-clause-size g c = (
  omega (arith, c.turn.ensures.numbers.0, c.whole_len-size.ensures, c.in_ok-entry.ensures.fits, length_whole c.args.image.now),
  omega (arith, c.turn.ensures.numbers.0, c.whole_len-size.ensures, c.in_ok-entry.ensures.fits, c.if-size-limit.false, c.limit-limit.ensures, length_whole c.args.image.now),
)

pub returns-clause-keeps : goal.returns-clause-keeps
returns-clause-keeps g c =
    let next = c.args.image.now in
    let moves = c.rewrite_spare.ensures.moves in
    let entry = c.deref-2.ensures.value ∙ c.in_ok-entry.ensures.bytes in
    subst (λ (d : _). Keeps g.D.Disk (disks c.args.self.now) d (bounds c.args.self.now)) (sym (disks_turned c.rewrite_spare.new.self c.turn.new.self c.turn.ensures.disks c.turn.ensures.place))
    (keeps_spare c.args.self.now c.rewrite_spare.new.self moves.0 moves.1 (33 + length c.deref-2.result.now)
    (omega (arith, c.if-size-limit.false, c.whole_len-size.ensures, c.in_ok-entry.ensures.fits, c.limit-limit.ensures, length_whole next, length_record 67 (whole_payload next), ap length entry))
    c.rewrite_spare.ensures.tells c.rewrite_spare.ensures.unfailing c.rewrite_spare.ensures.reach c.rewrite_spare.ensures.cause.later)

pub returns-clause-beside : goal.returns-clause-beside
returns-clause-beside g c shown held =
    let old = c.args.self.now in
    let next = c.args.image.now in
    let moves = c.rewrite_spare.ensures.moves in
    let head : c.deref.result.now ≡ header c.limit-limit.result (next_generation old.generation) next.revision ++ 0 ∷ [] =
    c.deref.ensures.value ∙ c.in_ok-header.ensures ∙ ap (λ (n : ℕ). header c.limit-limit.result n next.revision ++ 0 ∷ []) c.following-generation.ensures in
    let entry : c.deref-2.result.now ≡ body 67 (whole_payload next) ++ 0 ∷ [] = c.deref-2.ensures.value ∙ c.in_ok-entry.ensures.bytes in
    let written = c.in_ok-rewrite_spare.ensures.done held.beside (header c.limit-limit.result (next_generation old.generation) next.revision) head held.rests in (
      c.turn.ensures.disks.1 ∙ ap (λ (h : Half _ g.D.Disk). h.device) moves.0,
      ap g.D.Disk.seen c.turn.ensures.disks.0 ∙ written.told
          ∙ ap (λ (l : List ℕ). Some (header c.limit-limit.result (next_generation old.generation) next.revision ++ 1 ∷ l)) entry
          ∙ ap (λ (n : ℕ). Some (header n (next_generation old.generation) next.revision ++ 1 ∷ (body 67 (whole_payload next) ++ 0 ∷ []))) c.limit-limit.ensures
          ∙ ap (λ (l : List ℕ). Some l) (sym (append_assoc (header old.live.limit (next_generation old.generation) next.revision) (1 ∷ body 67 (whole_payload next)) (0 ∷ []))),
    )

pub returns-then-size-limit-clause-left : goal.returns-then-size-limit-clause-left
returns-then-size-limit-clause-left g c shown held tell =
    let old = c.args.self.now in
    let next = c.args.image.now in
    stays g.D.Disk (disks old) _
    (still_rewrite old shown held (header (limit_of old) (next_generation old.generation) next.revision) (record_bytes 67 (whole_payload next)) tell)

pub returns-in_err-header-clause-left : goal.returns-in_err-header-clause-left
returns-in_err-header-clause-left g c shown held tell =
    let old = c.args.self.now in
    let next = c.args.image.now in
    stays g.D.Disk (disks old) _
    (still_rewrite old shown held (header (limit_of old) (next_generation old.generation) next.revision) (record_bytes 67 (whole_payload next)) tell)

pub returns-in_err-entry-clause-left : goal.returns-in_err-entry-clause-left
returns-in_err-entry-clause-left g c shown held tell =
    let old = c.args.self.now in
    let next = c.args.image.now in
    stays g.D.Disk (disks old) _
    (still_rewrite old shown held (header (limit_of old) (next_generation old.generation) next.revision) (record_bytes 67 (whole_payload next)) tell)

pub returns-in_err-rewrite_spare-clause-torn : goal.returns-in_err-rewrite_spare-clause-torn
returns-in_err-rewrite_spare-clause-torn g c is_fault shown held =
    let d = g.D.Disk in
    let old = c.args.self.now in
    let new = c.rewrite_spare.new.self in
    let next = c.args.image.now in
    let moves = c.rewrite_spare.ensures.moves in
    let begun : List ℕ = header (limit_of old) (next_generation old.generation) next.revision in
    let head : c.deref.result.now ≡ begun ++ 0 ∷ [] =
    c.deref.ensures.value ∙ c.in_ok-header.ensures ∙ ap (λ (n : ℕ). header c.limit-limit.result n next.revision ++ 0 ∷ []) c.following-generation.ensures
    ∙ ap (λ (n : ℕ). header n (next_generation old.generation) next.revision ++ 0 ∷ []) c.limit-limit.ensures in
    let entry : c.deref-2.result.now ≡ record_bytes 67 (whole_payload next) = c.deref-2.ensures.value ∙ c.in_ok-entry.ensures.bytes in
    record {
      is_due = (ap (λ (h : Half _ d). h.is_torn) moves.0 ∙ live_calm old.is_torn old.live.is_torn c.requires.ready, c.in_err-rewrite_spare.ensures.due);
      settled = subst (λ (h : Half _ d). IsSettled d.seen d.tells_crashes d.may_leave h held.front held.entries) (sym moves.0) held.settled;
      stands = subst (λ (l : List ℕ). StandsIn d.seen d.tells_crashes d.may_leave new.spare (IsRewritten held.beside begun l)) entry
          (c.in_err-rewrite_spare.ensures.fault held.beside begun head held.rests);
      leads = leads_on old.in_second new.in_second old.generation new.generation (held.front ++ 0 ∷ []) held.beside shown moves.1 moves.2 held.leads;
      size = refl;
    }

pub returns-in_err-rewrite_spare-clause-left : goal.returns-in_err-rewrite_spare-clause-left
returns-in_err-rewrite_spare-clause-left g c shown held tell =
    let d = g.D.Disk in
    let old = c.args.self.now in
    let new = c.rewrite_spare.new.self in
    let next = c.args.image.now in
    let moves = c.rewrite_spare.ensures.moves in
    let begun : List ℕ = header (limit_of old) (next_generation old.generation) next.revision in
    let head : c.deref.result.now ≡ begun ++ 0 ∷ [] =
    c.deref.ensures.value ∙ c.in_ok-header.ensures ∙ ap (λ (n : ℕ). header c.limit-limit.result n next.revision ++ 0 ∷ []) c.following-generation.ensures
    ∙ ap (λ (n : ℕ). header n (next_generation old.generation) next.revision ++ 0 ∷ []) c.limit-limit.ensures in
    let entry : c.deref-2.result.now ≡ record_bytes 67 (whole_payload next) = c.deref-2.ensures.value ∙ c.in_ok-entry.ensures.bytes in
    subst (λ (p : _). Throughout d (disks old) p (StandFor old.in_second held.front (rewrite_of old next held.beside))) (sym (disks_spare old new moves.0 moves.1))
    (rewriting_on old shown held g.met.D.Disk.counts_now tell begun (record_bytes 67 (whole_payload next)) new.spare
    (λ telling. subst (λ (l : List ℕ). LeavesOnly d.moment d.left_since old.spare new.spare (IsRewritten held.beside begun l)) entry
    (c.rewrite_spare.ensures.any_moment held.beside begun head held.rests telling)))

pub returns-clause-left : goal.returns-clause-left
returns-clause-left g c shown held tell =
    let d = g.D.Disk in
    let old = c.args.self.now in
    let new = c.rewrite_spare.new.self in
    let next = c.args.image.now in
    let moves = c.rewrite_spare.ensures.moves in
    let begun : List ℕ = header (limit_of old) (next_generation old.generation) next.revision in
    let head : c.deref.result.now ≡ begun ++ 0 ∷ [] =
    c.deref.ensures.value ∙ c.in_ok-header.ensures ∙ ap (λ (n : ℕ). header c.limit-limit.result n next.revision ++ 0 ∷ []) c.following-generation.ensures
    ∙ ap (λ (n : ℕ). header n (next_generation old.generation) next.revision ++ 0 ∷ []) c.limit-limit.ensures in
    let entry : c.deref-2.result.now ≡ record_bytes 67 (whole_payload next) = c.deref-2.ensures.value ∙ c.in_ok-entry.ensures.bytes in
    subst (λ (p : _). Throughout d (disks old) p (StandFor old.in_second held.front (rewrite_of old next held.beside)))
    (sym (disks_turned new c.turn.new.self c.turn.ensures.disks c.turn.ensures.place ∙ disks_spare old new moves.0 moves.1))
    (rewriting_on old shown held g.met.D.Disk.counts_now tell begun (record_bytes 67 (whole_payload next)) new.spare
    (λ telling. subst (λ (l : List ℕ). LeavesOnly d.moment d.left_since old.spare new.spare (IsRewritten held.beside begun l)) entry
    (c.rewrite_spare.ensures.any_moment held.beside begun head held.rests telling)))
