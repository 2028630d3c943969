-- Pieces that are no directives, prices or rules leave the context as it is, so each is read in the first one's.
use Rattle.std.proofs.Common.{◌≡◌, ℕ, Bool, true, false, ◌||◌, List, [], ◌∷◌, ◌++◌, Option, Result, Ok, Err, if◌then◌else◌, length, nat_lt, refl, sym, ap, ◌∙◌, ◌+◌, append_assoc, append-nil, true≢false}
use Rattle.std.specs.Prelude.{IfSome}
use Rattle.std.specs.Str.{is_utf8}
use Rattle.std.proofs.lemmas.Grind.{flat_map-append}
use Rattle.hl_base.specs.Items.{kind_of}
use Rattle.hl_base.specs.Lines.{first_line}
use Rattle.hl_base.specs.declared.items.Kind.{Kind}
use Rattle.hl_base.specs.declared.items.Kind.TheVariants as kinds
use Rattle.hl_base.specs.declared.items.Piece.{Piece}
use Rattle.hl_base.specs.Limits.{entry_limit}
use Rattle.hl_time.specs.Calendar.{year_of}
use Rattle.book.specs.declared.directive.Directive.{Directive}
use Rattle.book.specs.declared.fault.Fault.{Fault}
use Rattle.book.specs.declared.fault.Cause.TheVariants as cause
use Rattle.book.specs.declared.item.Item.{Item}
use Rattle.book.specs.declared.item.Item.TheVariants as item
use Rattle.book.specs.declared.item.Placed.{Placed}
use Rattle.entry_reader.specs.declared.fault.ReadFault.{ReadFault}
use Rattle.entry_reader.specs.declared.fault.ReadFault.TheVariants as faults
use Rattle.entry_reader.specs.Causes.{◌>>=◌, cause_in, fault_at}
use Rattle.entry_reader.specs.Comments.{comments_in}
use Rattle.entry_reader.specs.Contexts.{Context, context_from, context_of, directive_in, directives_in}
use Rattle.entry_reader.specs.Entries.{entry_of, entry_with, txn_from}
use Rattle.entry_reader.specs.Heads.{head_of}
use Rattle.entry_reader.specs.Lines.{contents_of}
use Rattle.entry_reader.specs.Postings.{postings_of}
use Rattle.journal_reader.specs.Items.{broken_line, reading, reading_from, said_by}
use Rattle.parallel_reading.proofs.Runs.{Told, both_nothing, first_kept, with_first}
use Rattle.parallel_reading.specs.Runs.{both, bytes_of, has_head, is_head, is_head_kind, items_at, read_alike}

-- ---- what an entry says is no directive

one_item : (i j : Item) → (let r : Result Item Fault = Ok i in r) ≡ Ok j → i ≡ j
one_item i j e = cc

no_item : (f : Fault) (i : Item) → (let r : Result Item Fault = Err f in r) ≡ Ok i → directive_in i ≡ []
no_item f i e = absurd (let never : ⊥ = cc in never)

-- the item is the one that is made last
made : {A : Type 0} (read : Result A Fault) (f : A → Result Item Fault) (i : Item) → ((a : A) → f a ≡ Ok i → directive_in i ≡ []) → (read >>= f) ≡ Ok i → directive_in i ≡ []
made (Ok a) f i each e = each a e
made (Err fault) f i each e = no_item fault i e

nothing_said : (i j : Item) → directive_in i ≡ [] → (let r : Result Item Fault = Ok i in r) ≡ Ok j → directive_in j ≡ []
nothing_said i j none e = ap directive_in (sym (one_item i j e)) ∙ none

in_entry : (context : Context) (line : ℕ) (contents : List (List ℕ)) (i : Item) → entry_of context line contents ≡ Ok i → directive_in i ≡ []
unfolding entry_with
in_entry context line [] i e = no_item (fault_at line cause.Form) i e
in_entry context line (c ∷ cs) i e =
    made (head_of context line c) (λ head. postings_of context (year_of head.day) (line + 1) cs >>= λ postings. Ok (item.Txn (txn_from line head (comments_in cs) postings))) i
    (λ head. made (postings_of context (year_of head.day) (line + 1) cs) (λ postings. Ok (item.Txn (txn_from line head (comments_in cs) postings))) i
    (λ postings. nothing_said (item.Txn (txn_from line head (comments_in cs) postings)) i refl)) e

in_short : (long : Bool) (fault : Fault) (read : Result Item Fault) (i : Item) → (read ≡ Ok i → directive_in i ≡ []) → (if long then Err fault else read) ≡ Ok i → directive_in i ≡ []
in_short true fault read i none e = no_item fault i e
in_short false fault read i none e = none e

said_none : (k : Kind) (context : Context) (line : ℕ) (bytes : List ℕ) (i : Item) → is_head_kind k ≡ false → said_by k context line bytes ≡ Ok i → directive_in i ≡ []
said_none kinds.Gap context line bytes i plain e = nothing_said item.Gap i refl e
said_none kinds.Block context line bytes i plain e = nothing_said item.Block i refl e
said_none kinds.Stray context line bytes i plain e = no_item (fault_at line cause.Form) i e
said_none kinds.Entry context line bytes i plain e =
    in_short (nat_lt entry_limit (length bytes)) (fault_at line cause.TooLong) (entry_of context line (contents_of bytes)) i (in_entry context line (contents_of bytes) i) e
said_none kinds.Head context line bytes i plain e = absurd (true≢false plain)

in_utf8 : (whole : Bool) (fault : Fault) (read : Result Item Fault) (i : Item) → (read ≡ Ok i → directive_in i ≡ []) → (if whole then read else Err fault) ≡ Ok i → directive_in i ≡ []
in_utf8 true fault read i none e = none e
in_utf8 false fault read i none e = no_item fault i e

read_none : (context : Context) (line : ℕ) (bytes : List ℕ) (i : Item) → is_head bytes ≡ false → reading context line bytes ≡ Ok i → directive_in i ≡ []
unfolding reading
read_none context line bytes i plain e =
    in_utf8 (is_utf8 bytes) (fault_at (broken_line line bytes) cause.Encoding) (said_by (kind_of (first_line bytes)) context line bytes) i (said_none (kind_of (first_line bytes)) context line bytes i plain) e

-- ---- the context stays

same_context : (year : Option ℕ) (before : List Item) (i : Item) → directive_in i ≡ [] → context_of year (before ++ i ∷ []) ≡ context_of year before
same_context year before i none =
    ap (context_from year) (flat_map-append directive_in before (i ∷ []) ∙ ap (λ (ds : List Directive). directives_in before ++ (ds ++ [])) none ∙ append-nil (directives_in before))

-- ---- all pieces

neither : (a b : Bool) → (a || b) ≡ false → (a ≡ false) × (b ≡ false)
neither true b e = absurd (true≢false e)
neither false b e = (refl, e)

abbrev placed_as : Piece → Item → Placed
placed_as p i = record { piece = p; item = i }

one_more : (p : Piece) (read : Result Item Fault) (rest : Item → Result (List Placed) Fault) (same : Result (List Placed) Fault) → ((i : Item) → read ≡ Ok i → rest i ≡ same)
    → (read >>= λ i. rest i >>= λ more. Ok (placed_as p i ∷ more)) ≡ (read >>= λ i. same >>= λ more. Ok (placed_as p i ∷ more))
one_more p (Ok i) rest same each = ap (λ (r : Result (List Placed) Fault). r >>= λ more. Ok (placed_as p i ∷ more)) (each i refl)
one_more p (Err fault) rest same each = refl

pub alike : (year : Option ℕ) (before : List Item) (text : List ℕ) (pieces : List Piece) → has_head text pieces ≡ false → reading_from year before text pieces ≡ read_alike (context_of year before) text pieces
unfolding reading_from read_alike
alike year before text [] plain = refl
alike year before text (p ∷ ps) plain =
    let parts = neither (is_head (bytes_of text p)) (has_head text ps) plain in
    one_more p (reading (context_of year before) p.line (bytes_of text p)) (λ i. reading_from year (before ++ i ∷ []) text ps) (read_alike (context_of year before) text ps)
    (λ i e. alike year (before ++ i ∷ []) text ps parts.1
    ∙ ap (λ (c : Context). read_alike c text ps) (same_context year before i (read_none (context_of year before) p.line (bytes_of text p) i parts.0 e)))

-- ---- pieces, and others behind them

one_front : (read : Result Item Fault) (whole part : Item → Told) (behind : List Placed → Told) → ((i : Item) → whole i ≡ (part i >>= behind)) → (read >>= whole) ≡ ((read >>= part) >>= behind)
one_front (Ok i) whole part behind each = each i
one_front (Err fault) whole part behind each = refl

front_more : (p : Piece) (i : Item) (before : List Item) (read : Told) (rest : List Item → Told)
    → with_first (placed_as p i) (read >>= λ front. both (Ok front) (rest ((before ++ i ∷ []) ++ items_at front))) ≡ (with_first (placed_as p i) read >>= λ front. both (Ok front) (rest (before ++ items_at front)))
front_more p i before (Ok front) rest =
    first_kept (placed_as p i) (Ok front) (rest ((before ++ i ∷ []) ++ items_at front)) ∙ ap (λ (b : List Item). both (Ok (placed_as p i ∷ front)) (rest b)) (append_assoc before (i ∷ []) (items_at front))
front_more p i before (Err fault) rest = refl

read_front : (year : Option ℕ) (before : List Item) (text : List ℕ) (ps qs : List Piece)
    → reading_from year before text (ps ++ qs) ≡ (reading_from year before text ps >>= λ front. both (Ok front) (reading_from year (before ++ items_at front) text qs))
unfolding reading_from
read_front year before text [] qs =
    both_nothing (reading_from year before text qs) ∙ ap (λ (b : List Item). both (Ok []) (reading_from year b text qs)) (sym (append-nil before))
read_front year before text (p ∷ ps) qs =
    one_front (reading (context_of year before) p.line (bytes_of text p)) (λ i. with_first (placed_as p i) (reading_from year (before ++ i ∷ []) text (ps ++ qs)))
    (λ i. with_first (placed_as p i) (reading_from year (before ++ i ∷ []) text ps)) (λ front. both (Ok front) (reading_from year (before ++ items_at front) text qs))
    (λ i. ap (with_first (placed_as p i)) (read_front year (before ++ i ∷ []) text ps qs)
    ∙ front_more p i before (reading_from year (before ++ i ∷ []) text ps) (λ b. reading_from year b text qs))

-- what all pieces say, once those of the front were read
cut_read : (year : Option ℕ) (text : List ℕ) (pieces front back : List Piece) (read : Told) → front ++ back ≡ pieces → reading_from year [] text front ≡ read
    → reading_from year [] text pieces ≡ (read >>= λ items. both (Ok items) (reading_from year (items_at items) text back))
cut_read year text pieces front back read whole is =
    ap (reading_from year [] text) (sym whole) ∙ read_front year [] text front back ∙ ap (λ (r : Told). r >>= λ items. both (Ok items) (reading_from year (items_at items) text back)) is

pub front_stops_all : (fault : ReadFault) (year : Option ℕ) (text : List ℕ) (pieces front back : List Piece) → front ++ back ≡ pieces → IfSome (cause_in fault) (λ f. reading_from year [] text front ≡ Err f)
    → IfSome (cause_in fault) (λ f. reading_from year [] text pieces ≡ Err f)
front_stops_all faults.Memory year text pieces front back whole h = tt
front_stops_all (faults.Read fault) year text pieces front back whole h = cut_read year text pieces front back (Err fault) whole h

-- the same, where the front's items have become a vector's
behind_read : (year : Option ℕ) (text : List ℕ) (pieces front back : List Piece) (items owned : List Placed) (read : Told) → front ++ back ≡ pieces → reading_from year [] text front ≡ Ok items → owned ≡ items
    → both (Ok owned) (reading_from year (items_at owned) text back) ≡ read → reading_from year [] text pieces ≡ read
behind_read year text pieces front back items owned read whole h same k =
    cut_read year text pieces front back (Ok items) whole h ∙ ap (λ (l : List Placed). both (Ok l) (reading_from year (items_at l) text back)) (sym same) ∙ k

pub back_stops_all : (fault : ReadFault) (year : Option ℕ) (text : List ℕ) (pieces front back : List Piece) (items owned : List Placed) → front ++ back ≡ pieces → reading_from year [] text front ≡ Ok items → owned ≡ items
    → IfSome (cause_in fault) (λ f. both (Ok owned) (reading_from year (items_at owned) text back) ≡ Err f) → IfSome (cause_in fault) (λ f. reading_from year [] text pieces ≡ Err f)
back_stops_all faults.Memory year text pieces front back items owned whole h same k = tt
back_stops_all (faults.Read fault) year text pieces front back items owned whole h same k = behind_read year text pieces front back items owned (Err fault) whole h same k

pub all_told : (year : Option ℕ) (text : List ℕ) (pieces front back : List Piece) (items owned all list : List Placed) → front ++ back ≡ pieces → reading_from year [] text front ≡ Ok items → owned ≡ items
    → both (Ok owned) (reading_from year (items_at owned) text back) ≡ Ok all → list ≡ all → reading_from year [] text pieces ≡ Ok list
all_told year text pieces front back items owned all list whole h same k e =
    behind_read year text pieces front back items owned (Ok all) whole h same k ∙ ap (λ (l : List Placed). Ok l) (sym e)

-- pieces behind items, in the context behind these
pub behind_in : (year : Option ℕ) (context : Context) (text : List ℕ) (pieces : List Piece) (items kept shown : List Placed) → has_head text pieces ≡ false → kept ≡ items → shown ≡ kept
    → context ≡ context_of year (items_at shown) → both (Ok items) (reading_from year (items_at items) text pieces) ≡ both (Ok kept) (read_alike context text pieces)
behind_in year context text pieces items kept shown plain same seen made =
    let context_is : context_of year (items_at items) ≡ context = ap (λ (l : List Placed). context_of year (items_at l)) (sym (seen ∙ same)) ∙ sym made in
    ap (both (Ok items)) (alike year (items_at items) text pieces plain ∙ ap (λ (c : Context). read_alike c text pieces) context_is)
    ∙ ap (λ (l : List Placed). both (Ok l) (read_alike context text pieces)) (sym same)
