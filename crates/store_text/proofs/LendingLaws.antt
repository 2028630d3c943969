-- What is known of two disks that were handed out and came back.
use Rattle.std.proofs.Common.{◌≡◌, ◌≢◌, ◌⊎◌, inl, inr, ⊎_elim, ℕ, zero, suc, ◌≤◌, ◌+◌, ◌^◌, ◌-◌, min, Bool, true, false, List, [], ◌∷◌, ◌++◌, length, codes, Option, None, Some, Result, Ok, Err, IfSome, IsTrue, refl, sym, ◌∙◌, ap, subst, arith}
use Rattle.std.proofs.lemmas.Bool.{cases_lt}
use Rattle.hl_base.specs.Causes.{Rose}
use Rattle.hl_base.specs.Disk.{Only}
use Rattle.hl_base.specs.Shelf.{HasBlame, NotTooLong, Tells, shelf_cause, taken}
use Rattle.hl_base.specs.declared.disk.Disk.{Ghosts as Disks}
use Rattle.hl_base.specs.declared.shelf.Shelf.{Ghosts as Shelves}
use Rattle.hl_base.specs.declared.shelf.ShelfFault.{ShelfFault}
use Rattle.hl_base.specs.declared.shelf.ShelfFault.TheVariants as fault
use Rattle.store_text.specs.Lending.{AreTaken, CameBack, IsTaken, IsUntaken, KeepsNames, SecondIsTaken, TakesDisks}
use Rattle.store_text.specs.Refusals.{untaken}
use Rattle.store_text.specs.Shelved.{or_empty, second_name}
use Rattle.store_text.specs.declared.refusal.StoreRefusal.{StoreRefusal}
use Rattle.store_text.specs.declared.refusal.StoreRefusal.TheVariants as refusal

-- a store's two files have two names
pub apart : (name : List ℕ) → name ≢ second_name name
apart name e =
    let two : length (codes ".2") ≡ 2 = refl in
    let longer : length name ≡ length (name ++ codes ".2") = ap (λ (l : List ℕ). length l) e in
    absurd (omega (arith, longer, two, length_more name (codes ".2")))
  where
    length_more : (a b : List ℕ) → length (a ++ b) ≡ length a + length b
    length_more [] b = omega arith
    length_more (x ∷ a) b = let more = length_more a b in omega (arith, more)

ok_value : Result (Option (List ℕ)) ShelfFault → Option (List ℕ)
ok_value (Ok value) = value
ok_value (Err e) = None

-- what a disk reads as that was made where its name is absent
pub made_reads : (file seen : Option (List ℕ)) → taken true file ≡ Ok seen → seen ≡ Some (or_empty file)
unfolding ok_value
made_reads None seen e = sym (ap ok_value e)
made_reads (Some bytes) seen e = sym (ap ok_value e)

-- and of one that wasn't made
pub there_reads : (file seen : Option (List ℕ)) → taken false file ≡ Ok seen → (f : List ℕ) × (file ≡ Some f) × (seen ≡ Some f)
unfolding ok_value
there_reads None seen e = absurd cc
there_reads (Some bytes) seen e = (bytes, refl, sym (ap ok_value e))

pub absent_there : (file : Option (List ℕ)) → taken false file ≡ Err fault.Absent → file ≡ None
absent_there None e = refl
absent_there (Some bytes) e = absurd cc

pub never_absent : (file : Option (List ℕ)) → taken true file ≡ Err fault.Absent → ⊥
never_absent None e = cc
never_absent (Some bytes) e = cc

pub told_on : (old new : Tells) → new ≡ old → IsTrue old.files → IsTrue new.files
told_on old new same told = subst (λ (t : Tells). IsTrue t.files) (sym same) told

pub crashes_on : (old new : Tells) → new ≡ old → IsTrue old.crashes → IsTrue new.crashes
crashes_on old new same told = subst (λ (t : Tells). IsTrue t.crashes) (sym same) told

-- a count that rose before a time at which it didn't fall
pub rose_then : (a b c : ℕ) → Rose a b → a ≤ b → b ≤ c → Rose a c
rose_then a b c (inl less) le more = inl (omega (arith, less, more))
rose_then a b c (inr last) le more = ⊎_elim (λ less. inl less) (λ no_less. inr (omega (arith, last, le, more, no_less))) (cases_lt a c)

-- of two disks one failed a call
pub one_failed : (a b : ℕ) → Rose 0 (min (a + b) (2 ^ 64 - 1)) → (a ≢ 0) ⊎ (b ≢ 0)
one_failed (suc a) b rose = inl (λ e. omega (arith, e))
one_failed zero (suc b) rose = inr (λ e. omega (arith, e))
one_failed zero zero (inl less) = absurd (omega (arith, less))
one_failed zero zero (inr last) = absurd (omega (arith, last))

pub apart_at : (name beside : List ℕ) → beside ≡ second_name name → name ≢ beside
apart_at name beside is e = apart name (e ∙ is)

module _ {S D : Type 0} (s : Shelves S D) (g : Disks D) where
  abbrev refused : ShelfFault → Result D ShelfFault
  refused e = Err e

  pub untaken_by : (make : Bool) (name : List ℕ) (old new : S) (e : ShelfFault)
      → (IsTrue ((s.tells old).files) → IfSome (shelf_cause e) (λ f. taken make (s.file old name) ≡ Err f)) → NotTooLong e
      → HasBlame (s.faults old) (s.faults new) (s.last_failed old) (s.last_failed new) name (refused e)
      → KeepsNames s g old new (λ _. Unit {0}) → s.tells new ≡ s.tells old → s.disk_faults new ≡ s.disk_faults old
      → (s.IsSound old → (refused e ≢ Err fault.Failed) × s.IsSound new) → IsUntaken s g make name old new (untaken e)
  untaken_by make name old new fault.Failed told short blame keeps tells disk_faults sound = record {
    absent = λ t e. absurd cc;
    kind = tt;
    rose = λ e. (blame.rose refl, blame.named refl);
    same = λ unlike. absurd (unlike refl);
    later = blame.later;
    keeps = keeps;
    tells = tells;
    disk_faults = disk_faults;
    sound = λ h. absurd ((sound h).0 refl);
  }
  untaken_by make name old new fault.Absent told short blame keeps tells disk_faults sound = record {
    absent = λ t e. told t;
    kind = tt;
    rose = λ e. absurd cc;
    same = λ unlike. (blame.same (λ e. cc), blame.same_name (λ e. cc));
    later = blame.later;
    keeps = keeps;
    tells = tells;
    disk_faults = disk_faults;
    sound = λ h. ((λ e. cc), (sound h).1);
  }
  untaken_by make name old new (fault.TooLong limit seen) told short blame keeps tells disk_faults sound = absurd short
  untaken_by make name old new fault.Memory told short blame keeps tells disk_faults sound = record {
    absent = λ t e. absurd cc;
    kind = tt;
    rose = λ e. absurd cc;
    same = λ unlike. (blame.same (λ e. cc), blame.same_name (λ e. cc));
    later = blame.later;
    keeps = keeps;
    tells = tells;
    disk_faults = disk_faults;
    sound = λ h. ((λ e. cc), (sound h).1);
  }

  -- a first disk, and then what became of the take of the second
  pub with_first : (make : Bool) (name beside : List ℕ) (old mid new : S) (first : D) → IsTaken s g make name old mid first
      → (r : Result (D × D) StoreRefusal) → SecondIsTaken s g name beside first mid new r → TakesDisks s g make name beside old new r
  with_first make name beside old mid new first first_taken (Ok lent) is = record {
    mid = mid;
    first = subst (λ (d : D). IsTaken s g make name old mid d) (sym is.0) first_taken;
    second = is.1;
  }
  with_first make name beside old mid new first first_taken (Err r) back = record { way = inr (mid, first, first_taken, back) }

  module _ (make : Bool) (name beside : List ℕ) (old out : S) (lent : D × D) (takes : AreTaken s g make name beside old out lent) where
    pub out_tells : s.tells out ≡ s.tells old
    out_tells = takes.second.tells ∙ takes.first.tells

    pub out_file : (other : List ℕ) → s.file out other ≡ s.file old other
    out_file other = takes.second.keeps.files other tt ∙ takes.first.keeps.files other tt

    pub out_faults : (s.faults out ≡ s.faults old) × (s.last_failed out ≡ s.last_failed old) × (s.disk_faults out ≡ s.disk_faults old)
    out_faults = (takes.second.faults ∙ takes.first.faults, takes.second.last_failed ∙ takes.first.last_failed, takes.second.disk_faults ∙ takes.first.disk_faults)

    pub out_places : s.HasPlace out name × s.HasPlace out beside
    out_places = (takes.second.keeps.places name tt takes.first.place, takes.second.place)

    pub out_sound : s.IsSound old → s.IsSound out
    out_sound sound = takes.second.sound (takes.first.sound sound)

    pub first_reads : IsTrue ((s.tells old).files) → taken make (s.file old name) ≡ Ok (g.seen lent.0)
    first_reads told = takes.first.reads told

    pub second_reads : IsTrue ((s.tells old).files) → g.seen lent.1 ≡ Some (or_empty (s.file old beside))
    second_reads told =
        let same : s.file takes.mid beside ≡ s.file old beside = takes.first.keeps.files beside tt in
        made_reads (s.file old beside) (g.seen lent.1)
        (ap (λ (o : Option (List ℕ)). taken true o) (sym same) ∙ takes.second.reads (told_on (s.tells old) (s.tells takes.mid) takes.first.tells told))

    -- a crash leaves what they read as
    pub first_rests : IsTrue ((s.tells old).crashes) → (f : List ℕ) → g.seen lent.0 ≡ Some f → Only f (g.may_leave lent.0)
    first_rests telling f is = subst (λ (o : Option (List ℕ)). IfSome o (λ file. Only file (g.may_leave lent.0))) is (takes.first.rests telling)

    pub second_rests : IsTrue ((s.tells old).crashes) → (f : List ℕ) → g.seen lent.1 ≡ Some f → Only f (g.may_leave lent.1)
    second_rests telling f is =
        subst (λ (o : Option (List ℕ)). IfSome o (λ file. Only file (g.may_leave lent.1))) is
        (takes.second.rests (crashes_on (s.tells old) (s.tells takes.mid) takes.first.tells telling))

    pub both_tell : IsTrue ((s.tells old).crashes) → IsTrue (g.tells_crashes lent.0) × IsTrue (g.tells_crashes lent.1)
    both_tell telling = (
      takes.first.telling ∙ telling,
      takes.second.telling ∙ crashes_on (s.tells old) (s.tells takes.mid) takes.first.tells telling,
    )

  module _ (name beside : List ℕ) (out new : S) (back : D × D) (returns : CameBack s g name beside out new back) (differ : name ≢ beside) where
    pub back_tells : s.tells new ≡ s.tells out
    back_tells = returns.second.tells ∙ returns.first.tells

    pub back_faults : (s.faults new ≡ s.faults out) × (s.last_failed new ≡ s.last_failed out)
    back_faults = (returns.second.faults ∙ returns.first.faults, returns.second.last_failed ∙ returns.first.last_failed)

    pub back_others : (other : List ℕ) → other ≢ name → other ≢ beside → s.file new other ≡ s.file out other
    back_others other first second = returns.second.keeps.files other second ∙ returns.first.keeps.files other first

    pub back_sound : s.IsSound out → s.IsSound new
    back_sound sound = returns.second.sound (returns.first.sound sound)

    pub back_first : IsTrue ((s.tells out).files) → (f : List ℕ) → g.seen back.0 ≡ Some f → s.file new name ≡ Some f
    back_first told f is =
        returns.second.keeps.files name differ
        ∙ subst (λ (o : Option (List ℕ)). IfSome o (λ bytes. s.file returns.mid name ≡ Some bytes)) is (returns.first.reads told)

    pub back_second : IsTrue ((s.tells out).files) → (f : List ℕ) → g.seen back.1 ≡ Some f → s.file new beside ≡ Some f
    back_second told f is =
        subst (λ (o : Option (List ℕ)). IfSome o (λ bytes. s.file new beside ≡ Some bytes)) is
        (returns.second.reads (told_on (s.tells out) (s.tells returns.mid) returns.first.tells told))

    pub left_first : (c : List ℕ) → s.may_leave new name c → g.may_leave back.0 c
    left_first c left = returns.first.crash c (returns.second.keeps.crash name c differ left)

    pub left_second : (c : List ℕ) → s.may_leave new beside c → g.may_leave back.1 c
    left_second c left = returns.second.crash c left

    pub later_faults : s.disk_faults out ≤ s.disk_faults new
    later_faults = omega (arith, returns.first.later, returns.second.later)

    pub rose_back : (g.failures back.0 ≢ 0) ⊎ (g.failures back.1 ≢ 0) → Rose (s.disk_faults out) (s.disk_faults new)
    rose_back (inl first) = rose_then _ _ _ (returns.first.rose first) returns.first.later returns.second.later
    rose_back (inr second) = from_first (s.disk_faults out) (s.disk_faults returns.mid) (s.disk_faults new) (returns.second.rose second) returns.first.later
      where
        from_first : (a b c : ℕ) → Rose b c → a ≤ b → Rose a c
        from_first a b c (inl less) le = inl (omega (arith, less, le))
        from_first a b c (inr last) le = inr last

    pub clean_back : g.failures back.0 ≡ 0 → g.failures back.1 ≡ 0 → s.disk_faults new ≡ s.disk_faults out
    clean_back first second = returns.second.clean second ∙ returns.first.clean first
