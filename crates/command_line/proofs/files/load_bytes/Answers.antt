use Rattle.std.proofs.Common.{◌≡◌, ℕ, ◌+◌, Bool, true, false, if◌then◌else◌, List, length, nat_le, Option, None, Some, IfSome, Result, Ok, Err, refl, sym, subst}
use Rattle.hl_base.specs.Shelf.{loaded, shelf_cause}
use Rattle.hl_base.specs.declared.shelf.ShelfFault.{ShelfFault}
use Rattle.hl_base.specs.declared.shelf.ShelfFault.TheVariants as fault
use Rattle.command_line.specs.Answers.{FindsText}
use Rattle.command_line.specs.Sources.{file_within}
use Rattle.command_line.proofs.files.load_bytes.Goals as goal

abbrev absent : Result (List ℕ) ShelfFault
absent = Err fault.Absent

apart : (b : Bool) (bytes : List ℕ) (limit : ℕ) → (if b then Ok bytes else Err (fault.TooLong limit (limit + 1))) ≡ absent → ⊥
apart true bytes limit e = cc
apart false bytes limit e = cc

none_there : (limit : ℕ) (file : Option (List ℕ)) → loaded limit file ≡ Err fault.Absent → file ≡ None
none_there limit None e = refl
none_there limit (Some bytes) e = absurd (apart (nat_le (length bytes) limit) bytes limit e)

none_by : (f : ShelfFault) (limit : ℕ) (file : Option (List ℕ)) → f ≡ fault.Absent → IfSome (shelf_cause f) (λ x. loaded limit file ≡ Err x) → file ≡ None
none_by f limit file is h =
    let F : ShelfFault → Type 0 = λ x. IfSome (shelf_cause x) (λ y. loaded limit file ≡ Err y) in
    let there : F fault.Absent = subst F is h in
    none_there limit file there

pub returns-in-Err-Absent-clause-found : goal.returns-in-Err-Absent-clause-found
returns-in-Err-Absent-clause-found g c = λ told.
    let none = none_by c.in-Err-Absent.field-0 c.args.most (g.S.Shelf.file c.args.shelf.now c.args.name.now) c.in-Err-Absent.field-0-is (c.in-Err-Absent.ensures.loaded told) in
    subst (λ (o : Option (List ℕ)). FindsText (Err c.no_file.result) (file_within c.args.most c.args.name.now o)) (sym none) (c.no_file.ensures.refused c.args.most)
