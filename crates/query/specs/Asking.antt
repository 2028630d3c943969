-- The terms of a query, walked one after the other.
use Rattle.std.specs.Prelude.{Bool, true, false, ◌&&◌, ◌||◌, List, [], ◌∷◌, if◌then◌else◌}
use Rattle.book.specs.declared.transaction.Txn.{Txn}
use Rattle.query.specs.Matching.{Own, has_tag, holds_of_some, term_holds, term_holds_of, bounds_days, is_date, group_of, same_group}
use Rattle.query_terms.specs.Patterns.{Known}
use Rattle.query_terms.specs.declared.kinds.Kind.{Kind}
use Rattle.query_terms.specs.declared.kinds.Kind.TheVariants as kinds
use Rattle.query_terms.specs.declared.kinds.Term.{Term}
use Rattle.query.specs.declared.matching.Asked.{Asked}
use Rattle.query.specs.declared.matching.Asked.TheVariants as asked
use Rattle.query.specs.declared.matching.Group.{Group}
use Rattle.query.specs.declared.matching.Group.TheVariants as groups

abbrev pub tag_holds_of : Known → Own → Txn → Kind → Bool
tag_holds_of known own txn (kinds.Tag name value) = has_tag known name value txn.tags || holds_of_some known own txn 0 (kinds.Tag name value)
tag_holds_of known own txn kind = holds_of_some known own txn 0 kind

-- a term holds of what is asked about; without days a term of days always does, without bounds one that bounds the days
abbrev pub holds : Known → Own → Asked → Term → Bool
holds known own (asked.Posting posting txn) term = term_holds known own posting.now txn.now term
holds known own (asked.Undated posting txn) term = is_date term.kind || term_holds known own posting.now txn.now term
holds known own (asked.Boundless posting txn) term = bounds_days term.nots term.kind || term_holds known own posting.now txn.now term
holds known own (asked.Txn txn) term = term_holds_of known own txn.now term

-- one of the group's terms holds, or none came so far
abbrev pub one_after : Bool → Group → (Term → Bool) → List Term → Bool
one_after none group holds [] = none
one_after none group holds (t ∷ ts) =
    if same_group group (group_of t) then holds t || one_after false group holds ts else one_after none group holds ts

abbrev pub one_in : Group → (Term → Bool) → List Term → Bool
one_in = one_after true

-- every term that counts by itself holds
abbrev pub all_others : (Term → Bool) → List Term → Bool
all_others holds [] = true
all_others holds (t ∷ ts) =
    if same_group groups.Other (group_of t) then holds t && all_others holds ts else all_others holds ts
