-- Worked rows: what small texts are cut into when an entry's bytes are changed, computed by the definitions.
use Rattle.std.proofs.Common.{◌≡◌, ℕ, List, [], ◌∷◌, refl}
use Rattle.hl_base.specs.Items.{items_of}
use Rattle.hl_base.specs.declared.items.Kind.TheVariants as kinds
use Rattle.changed_texts.specs.Replacing.{IsEntry, IsEntryOf, changed_pieces, replaced}
use Rattle.changed_texts.proofs.Cuts.{piece}

-- `1 a`, an indented ` b`, an empty line, `2 c` and an indented ` d`
abbrev text : List ℕ
text = 49 ∷ 32 ∷ 97 ∷ 10 ∷ 32 ∷ 98 ∷ 10 ∷ 10 ∷ 50 ∷ 32 ∷ 99 ∷ 10 ∷ 32 ∷ 100 ∷ 10 ∷ []

-- `3`
abbrev short : List ℕ
short = 51 ∷ 10 ∷ []

-- `3`, and an indented ` x` and ` y`
abbrev long : List ℕ
long = 51 ∷ 10 ∷ 32 ∷ 120 ∷ 10 ∷ 32 ∷ 121 ∷ 10 ∷ []

as_it_was : items_of text ≡ piece 0 7 1 kinds.Entry ∷ piece 7 1 3 kinds.Gap ∷ piece 8 7 4 kinds.Entry ∷ []
as_it_was = refl

first_is : IsEntryOf text 0 (piece 0 7 1 kinds.Entry)
first_is = record { here = refl; kind = refl }

short_is : IsEntry short
short_is = record { ends = refl; one = refl }

long_is : IsEntry long
long_is = record { ends = refl; one = refl }

-- what is behind a shorter entry comes before, and what is behind a longer one after
first_short : items_of (replaced text (piece 0 7 1 kinds.Entry) short) ≡ piece 0 2 1 kinds.Entry ∷ piece 2 1 2 kinds.Gap ∷ piece 3 7 3 kinds.Entry ∷ []
first_short = refl

first_short_moved : changed_pieces text 0 (piece 0 7 1 kinds.Entry) short ≡ piece 0 2 1 kinds.Entry ∷ piece 2 1 2 kinds.Gap ∷ piece 3 7 3 kinds.Entry ∷ []
first_short_moved = refl

first_long : items_of (replaced text (piece 0 7 1 kinds.Entry) long) ≡ piece 0 8 1 kinds.Entry ∷ piece 8 1 4 kinds.Gap ∷ piece 9 7 5 kinds.Entry ∷ []
first_long = refl

first_long_moved : changed_pieces text 0 (piece 0 7 1 kinds.Entry) long ≡ piece 0 8 1 kinds.Entry ∷ piece 8 1 4 kinds.Gap ∷ piece 9 7 5 kinds.Entry ∷ []
first_long_moved = refl

-- nothing is behind the last one
last_short : items_of (replaced text (piece 8 7 4 kinds.Entry) short) ≡ piece 0 7 1 kinds.Entry ∷ piece 7 1 3 kinds.Gap ∷ piece 8 2 4 kinds.Entry ∷ []
last_short = refl

-- an entry that is taken away leaves the gaps around it as one: this is no change of one item
gaps_join : items_of (replaced (59 ∷ 10 ∷ 49 ∷ 10 ∷ 59 ∷ 10 ∷ []) (piece 2 2 2 kinds.Entry) []) ≡ piece 0 4 1 kinds.Gap ∷ []
gaps_join = refl
