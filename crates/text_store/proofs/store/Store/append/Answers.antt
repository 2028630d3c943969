use Rattle.std.proofs.Common.{List, ℕ, subst, ◌≡◌, ◌∙◌, ◌++◌, ◌∷◌, [], inl, refl, arith}
use Rattle.text_store.specs.Changes.{kind_of, payload_of}
use Rattle.text_store.specs.Entries.{body}
use Rattle.hl_base.specs.Disk.{LeavesOnly}
use Rattle.text_store.specs.Rest.{IsAt}
use Rattle.text_store.specs.Stores.{disks}
use Rattle.text_store.proofs.Both.{stays}
use Rattle.text_store.specs.Standing.{record_bytes}
use Rattle.text_store.proofs.Parts.{putting_on, still_put}
use Rattle.text_store.proofs.Appending.{putting, put_on, put_torn, put_bytes, none_due}
use Rattle.text_store.proofs.store.Store.append.Goals as goal

pub returns-in_err-entry-clause-any_moment : goal.returns-in_err-entry-clause-any_moment
returns-in_err-entry-clause-any_moment g c shown next held is_next tell = stays g.D.Disk (disks c.args.self.now) _ (λ first second of_first of_second. inl (held.shows tell first second of_first of_second))

pub returns-then-len-room-clause-any_moment : goal.returns-then-len-room-clause-any_moment
returns-then-len-room-clause-any_moment g c shown next held is_next tell = stays g.D.Disk (disks c.args.self.now) _ (λ first second of_first of_second. inl (held.shows tell first second of_first of_second))

pub put-requires : goal.put-requires
put-requires g c = omega (arith, c.if-len-room.false, c.room.ensures, c.limit-limit.ensures, c.limit-limit.type_inv, c.len-len.ensures, c.deref.ensures.len, c.args.self.now.live.within)

pub returns-in_err-put-clause-any_moment : goal.returns-in_err-put-clause-any_moment
returns-in_err-put-clause-any_moment g c shown next held is_next tell =
    let bytes : c.deref.result.now ≡ body (kind_of c.args.change.now) (payload_of c.args.change.now) ++ 0 ∷ [] = c.deref.ensures.value ∙ c.in_ok-entry.ensures.bytes in
    putting c.args.self.now c.args.change.now shown next held c.requires.name c.in_ok-entry.ensures.is_change c.in_ok-entry.ensures.fits is_next c.put.new.self.device g.met.D.Disk.counts_now tell
    (λ front other entries kind payload same fits settled telling. c.put.ensures.any_moment front other entries kind payload (bytes ∙ same) fits settled telling)

pub returns-in_err-put-clause-fault : goal.returns-in_err-put-clause-fault
returns-in_err-put-clause-fault g c is_fault shown next held is_next =
    let bytes : c.deref.result.now ≡ body (kind_of c.args.change.now) (payload_of c.args.change.now) ++ 0 ∷ [] = c.deref.ensures.value ∙ c.in_ok-entry.ensures.bytes in
    put_torn c.args.self.now c.args.change.now shown next held c.requires.name c.in_ok-entry.ensures.is_change c.in_ok-entry.ensures.fits is_next _ refl refl refl
    (c.in_err-put.ensures.due.0, none_due c.args.self.now.is_torn c.args.self.now.live.is_torn c.requires.ready)
    (λ front entries kind payload same fits settled. c.in_err-put.ensures.fault front entries kind payload (bytes ∙ same) fits settled)

pub returns-clause-any_moment : goal.returns-clause-any_moment
returns-clause-any_moment g c shown next held is_next tell =
    let bytes : c.deref.result.now ≡ body (kind_of c.args.change.now) (payload_of c.args.change.now) ++ 0 ∷ [] = c.deref.ensures.value ∙ c.in_ok-entry.ensures.bytes in
    putting c.args.self.now c.args.change.now shown next held c.requires.name c.in_ok-entry.ensures.is_change c.in_ok-entry.ensures.fits is_next c.put.new.self.device g.met.D.Disk.counts_now tell
    (λ front other entries kind payload same fits settled telling. c.put.ensures.any_moment front other entries kind payload (bytes ∙ same) fits settled telling)

pub returns-clause-acknowledged : goal.returns-clause-acknowledged
returns-clause-acknowledged g c shown next held is_next =
    let bytes : c.deref.result.now ≡ body (kind_of c.args.change.now) (payload_of c.args.change.now) ++ 0 ∷ [] = c.deref.ensures.value ∙ c.in_ok-entry.ensures.bytes in
    put_on c.args.self.now c.args.change.now shown next held c.requires.name c.in_ok-entry.ensures.is_change c.in_ok-entry.ensures.fits is_next _ refl refl refl
    (λ front entries kind payload same fits settled. c.in_ok-put.ensures.acknowledged front entries kind payload (bytes ∙ same) fits settled)

pub returns-clause-bytes : goal.returns-clause-bytes
returns-clause-bytes g c shown held =
    let kind = kind_of c.args.change.now in
    let payload = payload_of c.args.change.now in
    let bytes : c.deref.result.now ≡ body kind payload ++ 0 ∷ [] = c.deref.ensures.value ∙ c.in_ok-entry.ensures.bytes in
    let settled = c.in_ok-put.ensures.acknowledged held.front held.entries kind payload bytes c.in_ok-entry.ensures.fits held.settled in
    put_bytes held.front kind payload _ settled.rests.told

pub returns-in_err-put-clause-torn : goal.returns-in_err-put-clause-torn
returns-in_err-put-clause-torn g c is_fault shown held =
    let kind = kind_of c.args.change.now in
    let payload = payload_of c.args.change.now in
    let bytes : c.deref.result.now ≡ body kind payload ++ 0 ∷ [] = c.deref.ensures.value ∙ c.in_ok-entry.ensures.bytes in
    record {
      is_due = (c.in_err-put.ensures.due.0, none_due c.args.self.now.is_torn c.args.self.now.live.is_torn c.requires.ready);
      unsettled = c.in_err-put.ensures.fault held.front held.entries kind payload bytes c.in_ok-entry.ensures.fits held.settled;
      rests = held.rests;
      leads = held.leads;
    }

pub returns-in_err-entry-clause-left : goal.returns-in_err-entry-clause-left
returns-in_err-entry-clause-left g c shown held tell =
    stays g.D.Disk (disks c.args.self.now) _ (still_put c.args.self.now shown held (record_bytes (kind_of c.args.change.now) (payload_of c.args.change.now)) tell)

pub returns-then-len-room-clause-left : goal.returns-then-len-room-clause-left
returns-then-len-room-clause-left g c shown held tell =
    stays g.D.Disk (disks c.args.self.now) _ (still_put c.args.self.now shown held (record_bytes (kind_of c.args.change.now) (payload_of c.args.change.now)) tell)

pub returns-in_err-put-clause-left : goal.returns-in_err-put-clause-left
returns-in_err-put-clause-left g c shown held tell =
    let d = g.D.Disk in
    let bytes : c.deref.result.now ≡ body (kind_of c.args.change.now) (payload_of c.args.change.now) ++ 0 ∷ [] = c.deref.ensures.value ∙ c.in_ok-entry.ensures.bytes in
    putting_on c.args.self.now shown held g.met.D.Disk.counts_now tell (record_bytes (kind_of c.args.change.now) (payload_of c.args.change.now)) c.put.new.self.device
    (λ telling. subst (λ (l : List ℕ). LeavesOnly d.moment d.left_since c.args.self.now.live.device c.put.new.self.device (IsAt held.front l)) bytes
    (c.put.ensures.left held.front held.settled.place held.settled.rests telling))

pub returns-clause-left : goal.returns-clause-left
returns-clause-left g c shown held tell =
    let d = g.D.Disk in
    let bytes : c.deref.result.now ≡ body (kind_of c.args.change.now) (payload_of c.args.change.now) ++ 0 ∷ [] = c.deref.ensures.value ∙ c.in_ok-entry.ensures.bytes in
    putting_on c.args.self.now shown held g.met.D.Disk.counts_now tell (record_bytes (kind_of c.args.change.now) (payload_of c.args.change.now)) c.put.new.self.device
    (λ telling. subst (λ (l : List ℕ). LeavesOnly d.moment d.left_since c.args.self.now.live.device c.put.new.self.device (IsAt held.front l)) bytes
    (c.put.ensures.left held.front held.settled.place held.settled.rests telling))
