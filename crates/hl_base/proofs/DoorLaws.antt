-- The connections of a door in memory.
use Rattle.std.proofs.Common.{◌≡◌, ℕ, ◌<◌, ◌≤◌, List, [], ◌∷◌, ◌++◌, length, Some, None, refl, ap, arith}
use Rattle.std.specs.declared.snapshot.Snapshot.{Snapshot}
use Rattle.hl_base.specs.declared.mem_link.MemLink.{MemLink}
use Rattle.hl_base.specs.Door.{Returned, Visit, come_back}
use Rattle.hl_base.specs.MemDoor.{bytes_of, returned, visits_of}

-- one more is handed out
pub one_more_out : (givens : List (Snapshot MemLink)) (given : Snapshot MemLink) (back : List MemLink) → length back ≤ length givens
    → visits_of (givens ++ given ∷ []) back ≡ visits_of givens back ++ record { had = bytes_of given.value; back = None } ∷ []
one_more_out [] given [] le = refl
one_more_out [] given (b ∷ back) le = absurd (omega arith)
one_more_out (g ∷ givens) given [] le =
    let first : Visit = record { had = bytes_of g.value; back = None } in
    ap (λ (visits : List Visit). first ∷ visits) (one_more_out givens given [] (omega arith))
one_more_out (g ∷ givens) given (b ∷ back) le =
    let first : Visit = record { had = bytes_of g.value; back = Some (returned b) } in
    ap (λ (visits : List Visit). first ∷ visits) (one_more_out givens given back (omega arith))

-- one more came back
pub one_more_back : (givens : List (Snapshot MemLink)) (back : List MemLink) (link : MemLink) → length back < length givens
    → visits_of givens (back ++ link ∷ []) ≡ come_back (returned link) (visits_of givens back)
one_more_back [] back link less = absurd (omega arith)
one_more_back (g ∷ givens) [] link less = refl
one_more_back (g ∷ givens) (b ∷ back) link less =
    let first : Visit = record { had = bytes_of g.value; back = Some (returned b) } in
    ap (λ (visits : List Visit). first ∷ visits) (one_more_back givens back link (omega arith))

-- none is out
pub none_out : (givens : List (Snapshot MemLink)) (back : List MemLink) (link : Returned) → length givens ≤ length back
    → visits_of givens back ≡ come_back link (visits_of givens back)
none_out [] back link le = refl
none_out (g ∷ givens) [] link le = absurd (omega arith)
none_out (g ∷ givens) (b ∷ back) link le =
    let first : Visit = record { had = bytes_of g.value; back = Some (returned b) } in
    ap (λ (visits : List Visit). first ∷ visits) (none_out givens back link (omega arith))
