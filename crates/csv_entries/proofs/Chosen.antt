-- The last assignment to a field.
use Rattle.std.proofs.Common.{Bor, ◌≡◌, ℕ, ◌+◌, ◌-◌, ◌<◌, ◌≤◌, Bool, true, false, List, [], ◌∷◌, ◌++◌, length, get_or, take, map, Option, Some, None, refl, sym, ap, ◌∙◌, arith}
use Rattle.std.specs.List.{find, flat_map}
use Rattle.std.specs.Prelude.{reverse}
use Rattle.std.specs.Option.{option_or}
use Rattle.std.proofs.lemmas.List.{append-nil, reverse-append, map-append, take_more}
use Rattle.std.proofs.lemmas.List.Concat.{flat_map-append}
use Rattle.std.proofs.lemmas.List.Folds.{find-append}
use Rattle.csv_rules.specs.declared.kinds.Action.{Action}
use Rattle.csv_rules.specs.declared.kinds.Assignment.{Assignment}
use Rattle.csv_rules.specs.declared.kinds.Block.{Block}
use Rattle.csv_rules.specs.declared.kinds.EntryField.{EntryField}
use Rattle.csv_rules.specs.declared.kinds.Value.{Value}
use Rattle.csv_entries.specs.Places.{is_field}
use Rattle.csv_entries.specs.Blocks.{last_to, value_in, or_else, assigned, actions_in}

split_by : (a b : Option Assignment) → value_in (option_or a b) ≡ or_else (value_in a) (value_in b)
split_by (Some a) b = refl
split_by None b = refl

-- the last of two lists of assignments is in the second, else in the first
pub last_after : (field : EntryField) (xs ys : List Assignment) → last_to field (xs ++ ys) ≡ or_else (last_to field ys) (last_to field xs)
last_after field xs ys =
    rw (reverse-append xs ys, find-append (λ (a : Assignment). is_field a.field field) (reverse ys) (reverse xs))
    (split_by (find (λ (a : Assignment). is_field a.field field) (reverse ys)) (find (λ (a : Assignment). is_field a.field field) (reverse xs)))

one_by : (field : EntryField) (a : Assignment) (t : Bool) → is_field a.field field ≡ t → last_to field (a ∷ []) ≡ (elim t as (λ _. Option Value) [ true ↦ Some a.value | false ↦ None ])
one_by field a true e = rw e refl
one_by field a false e = rw e refl

or_found : (v : Value) (o other : Option Value) → o ≡ Some v → or_else o other ≡ Some v
or_found v o other e = rw e refl

or_none : (o other : Option Value) → o ≡ None → or_else o other ≡ other
or_none o other e = rw e refl

pub this_one : (field : EntryField) (whole : Option Value) (rest older : List Assignment) (last : Assignment) → whole ≡ last_to field rest → rest ≡ older ++ last ∷ []
    → is_field last.field field ≡ true → Some last.value ≡ whole
this_one field whole rest older last w cut is =
    sym (w ∙ rw cut (last_after field older (last ∷ []) ∙ or_found last.value (last_to field (last ∷ [])) (last_to field older) (one_by field last true is)))

pub not_this : (field : EntryField) (whole : Option Value) (rest older : List Assignment) (last : Assignment) → whole ≡ last_to field rest → rest ≡ older ++ last ∷ []
    → is_field last.field field ≡ false → whole ≡ last_to field older
not_this field whole rest older last w cut is =
    w ∙ rw cut (last_after field older (last ∷ []) ∙ or_none (last_to field (last ∷ [])) (last_to field older) (one_by field last false is))

-- the same of lists that are made of the parts of a list
parts_split : {X : Type 0} (field : EntryField) (f : X → List Assignment) (older : List X) (last : X)
    → last_to field (flat_map f (older ++ last ∷ [])) ≡ or_else (last_to field (f last)) (last_to field (flat_map f older))
parts_split field f older last =
    rw (flat_map-append f older (last ∷ []), append-nil (f last)) (last_after field (flat_map f older) (f last))

pub this_action : (field : EntryField) (whole found : Option Value) (value : Value) (rest older : List Action) (last : Action) → whole ≡ last_to field (flat_map assigned rest)
    → rest ≡ older ++ last ∷ [] → found ≡ last_to field (assigned last) → found ≡ Some value → Some value ≡ whole
this_action field whole found value rest older last w cut is some =
    sym (w ∙ rw cut (parts_split field assigned older last ∙ or_found value (last_to field (assigned last)) (last_to field (flat_map assigned older)) (sym is ∙ some)))

pub not_this_action : (field : EntryField) (whole found : Option Value) (rest older : List Action) (last : Action) → whole ≡ last_to field (flat_map assigned rest)
    → rest ≡ older ++ last ∷ [] → found ≡ last_to field (assigned last) → found ≡ None → whole ≡ last_to field (flat_map assigned older)
not_this_action field whole found rest older last w cut is none =
    w ∙ rw cut (parts_split field assigned older last ∙ or_none (last_to field (assigned last)) (last_to field (flat_map assigned older)) (sym is ∙ none))

-- what the last of some blocks gives a field
abbrev pub in_blocks : EntryField → List Block → Option Value
in_blocks field blocks = last_to field (flat_map assigned (actions_in blocks))

blocks_split : (field : EntryField) (older : List Block) (last : Block)
    → in_blocks field (older ++ last ∷ []) ≡ or_else (last_to field (flat_map assigned last.actions)) (in_blocks field older)
blocks_split field older last =
    rw (flat_map-append (λ (b : Block). b.actions) older (last ∷ []), append-nil last.actions, flat_map-append assigned (actions_in older) last.actions)
    (last_after field (flat_map assigned (actions_in older)) (flat_map assigned last.actions))

pub this_block : (field : EntryField) (whole found : Option Value) (value : Value) (rest older : List Block) (last : Block) → whole ≡ in_blocks field rest
    → rest ≡ older ++ last ∷ [] → found ≡ last_to field (flat_map assigned last.actions) → found ≡ Some value → Some value ≡ whole
this_block field whole found value rest older last w cut is some =
    sym (w ∙ rw cut (blocks_split field older last ∙ or_found value (last_to field (flat_map assigned last.actions)) (in_blocks field older) (sym is ∙ some)))

pub not_this_block : (field : EntryField) (whole found : Option Value) (rest older : List Block) (last : Block) → whole ≡ in_blocks field rest
    → rest ≡ older ++ last ∷ [] → found ≡ last_to field (flat_map assigned last.actions) → found ≡ None → whole ≡ in_blocks field older
not_this_block field whole found rest older last w cut is none =
    w ∙ rw cut (blocks_split field older last ∙ or_none (last_to field (flat_map assigned last.actions)) (in_blocks field older) (sym is ∙ none))

pub no_more : {X : Type 0} (whole : Option Value) (f : List X → Option Value) (rest : List X) → whole ≡ f rest → f [] ≡ None → rest ≡ [] → None ≡ whole
no_more whole f rest w none e = sym (w ∙ rw e none)

-- ---- blocks that are lent, walked from the last on

abbrev lent : List (Bor Block) → List Block
lent blocks = map (λ (b : Bor Block). b.now) blocks

place_split : (blocks : List (Bor Block)) (left now : ℕ) (b : Bor Block) → now ≡ left - 1 → 0 < left → left ≤ length blocks → b ≡ get_or blocks now b
    → lent (take left blocks) ≡ lent (take now blocks) ++ b.now ∷ []
place_split blocks left now b e some within is =
    let n : left ≡ now + 1 = omega (arith, e, some) in
    let cut : take (now + 1) blocks ≡ take now blocks ++ b ∷ [] = take_more blocks now b (omega (arith, e, some, within)) ∙ ap (λ x. take now blocks ++ x ∷ []) (sym is) in
    rw (n, cut) (map-append (λ (b : Bor Block). b.now) (take now blocks) (b ∷ []))

pub this_place : (field : EntryField) (whole found : Option Value) (value : Value) (blocks : List (Bor Block)) (left now : ℕ) (b : Bor Block)
    → whole ≡ in_blocks field (map (λ (b : Bor Block). b.now) (take left blocks)) → now ≡ left - 1 → 0 < left → left ≤ length blocks → b ≡ get_or blocks now b
    → found ≡ last_to field (flat_map assigned b.now.actions) → found ≡ Some value → Some value ≡ whole
this_place field whole found value blocks left now b w e some within is given has =
    this_block field whole found value (lent (take left blocks)) (lent (take now blocks)) b.now w (place_split blocks left now b e some within is) given has

pub not_this_place : (field : EntryField) (whole found : Option Value) (blocks : List (Bor Block)) (left now : ℕ) (b : Bor Block)
    → whole ≡ in_blocks field (map (λ (b : Bor Block). b.now) (take left blocks)) → now ≡ left - 1 → 0 < left → left ≤ length blocks → b ≡ get_or blocks now b
    → found ≡ last_to field (flat_map assigned b.now.actions) → found ≡ None → whole ≡ in_blocks field (map (λ (b : Bor Block). b.now) (take now blocks))
not_this_place field whole found blocks left now b w e some within is given none =
    not_this_block field whole found (lent (take left blocks)) (lent (take now blocks)) b.now w (place_split blocks left now b e some within is) given none

pub no_place : (field : EntryField) (whole : Option Value) (blocks : List (Bor Block)) (left : ℕ)
    → whole ≡ in_blocks field (map (λ (b : Bor Block). b.now) (take left blocks)) → left ≤ 0 → None ≡ whole
no_place field whole blocks left w none =
    let n : left ≡ 0 = omega arith in
    sym (rw n at w)
