-- The lines of a text, of which some are an entry: those before it, its own, and those behind it.
use Rattle.std.proofs.Common.{ℕ, zero, suc, ◌≡◌, ◌+◌, ◌<◌, List, [], ◌∷◌, ◌++◌, length, take, drop, Some, refl, sym, ap, subst, ◌∙◌, arith}
use Rattle.std.specs.List.{concat, slice_get, AllByRecursion}
use Rattle.std.proofs.lemmas.Option.{none-some, same_Some}
use Rattle.std.proofs.Math.Seq.{drop-append_seam, take-append_seam}
use Rattle.hl_base.specs.Items.{cut_from, items_of, kind_of, lines_more}
use Rattle.hl_base.specs.Lines.{lines_of}
use Rattle.hl_base.specs.declared.items.Kind.{Kind}
use Rattle.hl_base.specs.declared.items.Kind.TheVariants as kinds
use Rattle.hl_base.specs.declared.items.Piece.{Piece}
use Rattle.text_ends.proofs.Lining.{concat_lines}
use Rattle.text_ends.proofs.Saying.{drop_behind}
use Rattle.changed_texts.specs.Replacing.{IsEntry, IsEntryOf, bytes_at, entry_alone}
use Rattle.changed_texts.proofs.Cuts.{EndsBy, Place, Stops, anew_stops, cut_one, entry_begins, find, kind_before, piece}
use Rattle.changed_texts.proofs.Lines.{AreLines, are_lines, back_lines, concat_both, own_lines, whole_lines}

-- ---- lists and their places

pub get_within : {X : Type 0} (xs : List X) (n : ℕ) (x : X) → slice_get xs n ≡ Some x → n < length xs
get_within [] n x h = absurd (none-some x h)
get_within (y ∷ ys) zero x h = omega arith
get_within (y ∷ ys) (suc n) x h = let rest = get_within ys n x h in omega (arith, rest)

pub behind_number : {X : Type 0} (zs : List X) (q : X) (qs : List X) → drop (suc (length zs)) (zs ++ q ∷ qs) ≡ qs
behind_number [] q qs = refl
behind_number (z ∷ zs) q qs = behind_number zs q qs

-- ---- the entry in its text

-- An entry of a text by lines, and what the text is cut into.
pub record Found (text : List ℕ) (n : ℕ) (p : Piece) : Type 0 where
  pub pre : List (List ℕ)
  pub first : List ℕ
  pub own : List (List ℕ)
  pub post : List (List ℕ)
  pub lines : lines_of text ≡ pre ++ first ∷ (own ++ post)
  pub at_is : p.at ≡ length (concat pre)
  pub len_is : p.len ≡ length (concat (first ∷ own))
  pub line_is : p.line ≡ 1 + length pre
  pub kind_is : p.kind ≡ kind_of first
  pub is_entry : kind_of first ≡ kinds.Entry
  pub takes : lines_more kinds.Entry (own ++ post) ≡ length own
  pub few : n < length (items_of text)
  pub ends : AllByRecursion (EndsBy p.at) (take n (items_of text))
  pub old : items_of text ≡ take n (items_of text) ++ p ∷ cut_from 0 (p.at + p.len) (p.line + length (first ∷ own)) post
  pub front : (zs : List (List ℕ)) → Stops (kind_before n (items_of text)) zs → cut_from 0 0 1 (pre ++ zs) ≡ take n (items_of text) ++ cut_from 0 p.at p.line zs

zero_more : (a b : ℕ) → a ≡ 0 + b → a ≡ b
zero_more a b e = omega (arith, e)

found_by : (text : List ℕ) (n : ℕ) (p : Piece) → n < length (items_of text) → p.kind ≡ kinds.Entry → (c : Place n 0 0 1 (lines_of text))
    → p ≡ piece (0 + length (concat c.pre)) (length (concat (c.first ∷ c.own))) (1 + length c.pre) (kind_of c.first) → Found text n p
found_by text n p below entry c is =
    let at : p.at ≡ 0 + length (concat c.pre) = ap (λ (q : Piece). q.at) is in
    let len : p.len ≡ length (concat (c.first ∷ c.own)) = ap (λ (q : Piece). q.len) is in
    let line : p.line ≡ 1 + length c.pre = ap (λ (q : Piece). q.line) is in
    let kind : p.kind ≡ kind_of c.first = ap (λ (q : Piece). q.kind) is in
    let is_entry : kind_of c.first ≡ kinds.Entry = sym kind ∙ entry in
    let begins = entry_begins c.first is_entry in
    record {
      pre = c.pre;
      first = c.first;
      own = c.own;
      post = c.post;
      lines = c.is;
      at_is = zero_more p.at (length (concat c.pre)) at;
      len_is = len;
      line_is = line;
      kind_is = kind;
      is_entry = is_entry;
      takes = ap (λ (k : Kind). lines_more k (c.own ++ c.post)) (sym is_entry) ∙ c.takes;
      few = below;
      ends = subst (λ (m : ℕ). AllByRecursion (EndsBy m) (take n (items_of text))) (sym at) c.ends;
      old =
          ap (cut_from 0 0 1) c.is ∙ c.front (c.first ∷ (c.own ++ c.post)) (anew_stops (kind_before n (items_of text)) c.first (c.own ++ c.post) begins)
          ∙ ap (λ (qs : List Piece). take n (items_of text) ++ qs) (cut_one c.first c.own c.post (0 + length (concat c.pre)) (1 + length c.pre) c.takes)
          ∙ (λ i. take n (items_of text) ++ sym is i ∷ cut_from 0 (sym at i + sym len i) (sym line i + length (c.first ∷ c.own)) c.post);
      front = λ zs s. c.front zs s ∙ (λ i. take n (items_of text) ++ cut_from 0 (sym at i) (sym line i) zs);
    }

pub found : (text : List ℕ) (n : ℕ) (p : Piece) → IsEntryOf text n p → Found text n p
found text n p of =
    let below = get_within (items_of text) n p of.here in
    let c = find n 0 0 1 (lines_of text) below in
    found_by text n p below of.kind c (same_Some p (piece (0 + length (concat c.pre)) (length (concat (c.first ∷ c.own))) (1 + length c.pre) (kind_of c.first)) (sym of.here ∙ c.it))

-- ---- its bytes

-- the bytes before an entry, its own, and those behind it
pub record Parted (text : List ℕ) (n : ℕ) (p : Piece) (c : Found text n p) : Type 0 where
  pub whole : text ≡ concat c.pre ++ (concat (c.first ∷ c.own) ++ concat c.post)
  pub before : take p.at text ≡ concat c.pre
  pub bytes : bytes_at text p ≡ concat (c.first ∷ c.own)
  pub behind : drop (p.at + p.len) text ≡ concat c.post
  pub own_lines : lines_of (bytes_at text p) ≡ c.first ∷ c.own
  pub post_lines : lines_of (concat c.post) ≡ c.post
  pub are : AreLines (c.pre ++ c.first ∷ (c.own ++ c.post))

pub parted : (text : List ℕ) (n : ℕ) (p : Piece) (c : Found text n p) → Parted text n p c
parted text n p c =
    let front = concat c.pre in
    let own = concat (c.first ∷ c.own) in
    let back = concat c.post in
    let whole : text ≡ front ++ (own ++ back) =
    sym (concat_lines text) ∙ ap concat c.lines ∙ concat_both c.pre (c.first ∷ (c.own ++ c.post)) ∙ ap (λ (xs : List ℕ). front ++ xs) (concat_both (c.first ∷ c.own) c.post) in
    let from : drop p.at text ≡ own ++ back = (λ i. drop (c.at_is i) (whole i)) ∙ drop-append_seam front (own ++ back) in
    let bytes : bytes_at text p ≡ own = (λ i. take (c.len_is i) (from i)) ∙ take-append_seam own back in
    let are : AreLines (c.pre ++ c.first ∷ (c.own ++ c.post)) = subst AreLines c.lines (are_lines text) in
    let mine : AreLines ((c.first ∷ c.own) ++ c.post) = back_lines c.pre ((c.first ∷ c.own) ++ c.post) are in
    record {
      whole = whole;
      before = (λ i. take (c.at_is i) (whole i)) ∙ take-append_seam front (own ++ back);
      bytes = bytes;
      behind = (λ i. drop (c.at_is i + c.len_is i) (whole i)) ∙ drop_behind front (own ++ back) (length own) ∙ drop-append_seam own back;
      own_lines = ap lines_of bytes ∙ own_lines (c.first ∷ c.own) c.post mine;
      post_lines = whole_lines c.post (back_lines (c.first ∷ c.own) c.post mine);
      are = are;
    }

-- ---- an entry that stands alone

-- The lines of bytes that are one entry.
pub record Alone (bytes : List ℕ) : Type 0 where
  pub first : List ℕ
  pub own : List (List ℕ)
  pub lines : lines_of bytes ≡ first ∷ own
  pub is_entry : kind_of first ≡ kinds.Entry
  pub cut : cut_from 0 0 1 (first ∷ own) ≡ entry_alone bytes ∷ []

head_kind : List Piece → Kind
head_kind [] = kinds.Gap
head_kind (p ∷ ps) = p.kind

some_piece : (q : Piece) → (let none : List Piece = [] in none) ≡ q ∷ [] → ⊥
some_piece q h = cc

alone_by : (bytes : List ℕ) (ls : List (List ℕ)) → lines_of bytes ≡ ls → cut_from 0 0 1 ls ≡ entry_alone bytes ∷ [] → Alone bytes
unfolding head_kind
alone_by bytes [] is cut = absurd (some_piece (entry_alone bytes) cut)
alone_by bytes (l ∷ ls) is cut = record { first = l; own = ls; lines = is; is_entry = ap head_kind cut; cut = cut }

pub alone : (bytes : List ℕ) → IsEntry bytes → Alone bytes
alone bytes entry = alone_by bytes (lines_of bytes) refl entry.one
