-- Each stream of bytes has a reading, into messages and an ending.
use Rattle.std.proofs.Common.{◌≡◌, ◌⊎◌, ℕ, zero, suc, ◌+◌, ◌<◌, ◌≤◌, min, Bool, true, false, ◌||◌, ◌==◌, List, [], ◌∷◌, ◌++◌, length, take, drop, Option, Some, None, refl, sym, ap, ◌∙◌, subst, inl, inr, arith, append_assoc, length-append, length-drop, length-take, take-append-drop}
use Rattle.std.proofs.lemmas.Bool.{cases_lt}
use Rattle.std.proofs.lemmas.Bool.Decides.{nat_tests}
use Rattle.std.proofs.lemmas.List.Elements.{All-cons, All-nil}
use Rattle.std.specs.List.{flat_map, All}
use Rattle.httparse.specs.Grammar.{RequestHead, print_request, ReadsRequest}
use Rattle.web_messages.specs.Fields.{fields_of, body_length, closes}
use Rattle.web_messages.specs.Streams.{Message, message_bytes, IsWhole, IsOpen, BeginsWith, is_last, Ending, over, last, unframed, bad_head, long_head, long_body, cut_body, cut_head, EndsSo, Messages, most_head, most_fields, most_body, most_messages, front}
use Rattle.web_messages.proofs.Fronts.{Stands, head, still, bad, what_stands}
use Rattle.web_messages.proofs.ReceiptLemmas.{front_all, reads_front, short_front}

-- a reading of bytes that stand behind so many messages
pub record ReadsFrom (count : ℕ) (bytes : List ℕ) : Type 0 where
  pub before : List Message
  pub rest : List ℕ
  pub ending : Ending
  pub whole : bytes ≡ flat_map message_bytes before ++ rest
  pub each : All IsWhole before
  pub on : All (λ m. closes m.head ≡ false) before
  pub few : count + length before < most_messages
  pub ends : EndsSo (count + length before) rest ending

-- they end at once
ends_here : (count : ℕ) (bytes : List ℕ) (e : Ending) → count < most_messages → EndsSo count bytes e → ReadsFrom count bytes
ends_here count bytes e few ends =
    let none : count ≡ count + 0 = omega arith in
    let P : ℕ → Type 0 = λ n. EndsSo n bytes e in
    record {
      before = [];
      rest = bytes;
      ending = e;
      whole = refl;
      each = All-nil IsWhole;
      on = All-nil (λ (m : Message). closes m.head ≡ false);
      few = omega (arith, few);
      ends = subst P none ends;
    }

-- a message stands before the others
goes_further : (count : ℕ) (bytes more : List ℕ) (m : Message) → IsWhole m → bytes ≡ message_bytes m ++ more → closes m.head ≡ false
    → ReadsFrom (count + 1) more → ReadsFrom count bytes
goes_further count bytes more m w is stays r =
    let further : (count + 1) + length r.before ≡ count + length (m ∷ r.before) = omega arith in
    let P : ℕ → Type 0 = λ n. EndsSo n r.rest r.ending in
    record {
      before = m ∷ r.before;
      rest = r.rest;
      ending = r.ending;
      whole = is ∙ ap (λ (l : List ℕ). message_bytes m ++ l) r.whole ∙ sym (append_assoc (message_bytes m) (flat_map message_bytes r.before) r.rest);
      each = All-cons IsWhole m r.before w r.each;
      on = All-cons (λ (x : Message). closes x.head ≡ false) m r.before stays r.on;
      few = omega (arith, r.few);
      ends = subst P further r.ends;
    }

-- a head has bytes
head_some : (h : RequestHead) → 0 < length (print_request h)
unfolding print_request
head_some h = simp length-append (omega arith)

both_false : (a b : Bool) → (a || b) ≡ false → (a ≡ false) × (b ≡ false)
both_false true b h = absurd cc
both_false false b h = (refl, h)

others_fit : (count : ℕ) → (count + 1 == most_messages) ≡ false → count < most_messages → count + 1 < most_messages
others_fit count other few = grind (arith, nat_tests)

-- the message of a head and of what follows it
abbrev of_head : RequestHead → List ℕ → ℕ → Message
of_head h more said = record { head = h; body = take said more }

message_whole : (bytes more : List ℕ) (h : RequestHead) (said : ℕ) → BeginsWith bytes h more → body_length (fields_of h) ≡ Some said
    → said ≤ most_body → said ≤ length more → IsWhole (of_head h more said)
message_whole bytes more h said p e l enough =
    let least : min said (length more) ≡ said = omega (arith, enough) in
    let size : length (take said more) ≡ said = length-take said more ∙ least in
    record { head = p.0.0; short = p.1; said = e ∙ ap Some (sym size); bounded = omega (arith, size, l) }

message_first : (bytes more : List ℕ) (h : RequestHead) (said : ℕ) → BeginsWith bytes h more
    → bytes ≡ message_bytes (of_head h more said) ++ drop said more
message_first bytes more h said p =
    p.0.1 ∙ ap (λ (b : List ℕ). print_request h ++ b) (sym (take-append-drop said more))
    ∙ sym (append_assoc (print_request h) (take said more) (drop said more))

message_shorter : (bytes more : List ℕ) (h : RequestHead) (said : ℕ) → BeginsWith bytes h more → length (drop said more) < length bytes
message_shorter bytes more h said p =
    omega (arith, head_some h, ap length p.0.1, length-append (print_request h) more, length-drop said more)

module _ (count : ℕ) (bytes : List ℕ) (few : count < most_messages)
    (next : (rest : List ℕ) → length rest < length bytes → count + 1 < most_messages → ReadsFrom (count + 1) rest) where
  message_by : (more : List ℕ) (h : RequestHead) (said : ℕ) → BeginsWith bytes h more → IsWhole (of_head h more said)
      → (t : Bool) → is_last count (of_head h more said) ≡ t → ReadsFrom count bytes
  message_by more h said p whole true e =
      ends_here count bytes (last (of_head h more said)) few (drop said more, message_first bytes more h said p, whole, e)
  message_by more h said p whole false e =
      let stays = both_false (closes h) (count + 1 == most_messages) e in
      goes_further count bytes (drop said more) (of_head h more said) whole (message_first bytes more h said p) stays.0
      (next (drop said more) (message_shorter bytes more h said p) (others_fit count stays.1 few))

  size_by : (more : List ℕ) (h : RequestHead) (said : ℕ) → BeginsWith bytes h more → body_length (fields_of h) ≡ Some said
      → (most_body < said) ⊎ (said ≤ most_body) → (length more < said) ⊎ (said ≤ length more) → ReadsFrom count bytes
  size_by more h said p e (inl l) enough = ends_here count bytes (long_body said) few (h, more, p, e, l)
  size_by more h said p e (inr l) (inl short) = ends_here count bytes (cut_body (length more) said) few (h, more, p, e, l, short, refl)
  size_by more h said p e (inr l) (inr enough) =
      message_by more h said p (message_whole bytes more h said p e l enough) (is_last count (of_head h more said)) refl

  body_by : (more : List ℕ) (h : RequestHead) → BeginsWith bytes h more → (said : Option ℕ) → body_length (fields_of h) ≡ said → ReadsFrom count bytes
  body_by more h p None e = ends_here count bytes unframed few (h, more, p, e)
  body_by more h p (Some said) e = size_by more h said p e (cases_lt most_body said) (cases_lt (length more) said)

  fields_by : (more : List ℕ) (h : RequestHead) → ReadsRequest bytes h more → length (print_request h) ≤ most_head
      → (most_fields < length h.fields) ⊎ (length h.fields ≤ most_fields) → ReadsFrom count bytes
  fields_by more h reads short (inl many) = ends_here count bytes long_head few (inr (h, more, reads, short, many))
  fields_by more h reads short (inr fit) = body_by more h (reads, record { bytes = short; fields = fit }) (body_length (fields_of h)) refl

  open_by : IsOpen (front bytes) → 0 < length bytes → (length bytes < most_head) ⊎ (most_head ≤ length bytes) → ReadsFrom count bytes
  open_by none some (inl short) =
      ends_here count bytes (cut_head (length bytes)) few (subst IsOpen (front_all bytes (omega (arith, short))) none, some, short, refl)
  open_by none some (inr long) = ends_here count bytes long_head few (inl (none, long))

  front_by : 0 < length bytes → Stands (front bytes) → ReadsFrom count bytes
  front_by some (head h x reads) =
      fields_by (x ++ drop most_head bytes) h (reads_front bytes x h reads) (short_front bytes x h reads) (cases_lt most_fields (length h.fields))
  front_by some (still none) = open_by none some (cases_lt (length bytes) most_head)
  front_by some (bad b) = ends_here count bytes bad_head few b

  reads_by : 0 < length bytes → ReadsFrom count bytes
  reads_by some = front_by some (what_stands (front bytes))

reads_from : (n count : ℕ) (bytes : List ℕ) → length bytes ≤ n → count < most_messages → ReadsFrom count bytes
reads_from n count [] l few = ends_here count [] over few refl
reads_from zero count (b ∷ bytes) l few = absurd (omega (arith, l))
reads_from (suc n) count (b ∷ bytes) l few =
    reads_by count (b ∷ bytes) few (λ rest less others. reads_from n (count + 1) rest (omega (arith, less, l)) others) (omega arith)

pub each_reads : (bytes : List ℕ) → (before : List Message) × (rest : List ℕ) × (ending : Ending) × Messages bytes before rest ending
each_reads bytes =
    let r = reads_from (length bytes) 0 bytes (omega arith) (omega arith) in
    let none : 0 + length r.before ≡ length r.before = omega arith in
    let P : ℕ → Type 0 = λ n. EndsSo n r.rest r.ending in (
      r.before,
      r.rest,
      r.ending,
      record { whole = r.whole; each = r.each; on = r.on; few = omega (arith, r.few); ends = subst P none r.ends },
    )
