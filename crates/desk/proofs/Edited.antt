-- What a store keeps of an edit, and the states of imports after it.
use Rattle.std.proofs.Common.{◌≡◌, ℕ, ◌+◌, ◌≤◌, ◌<◌, ◌^◌, ◌-◌, Bool, true, false, if◌then◌else◌, nat_le, nat_lt, List, [], length, Option, Some, None, IfSome, refl, ap, arith}
use Rattle.std.proofs.lemmas.Bool.Decides.{nat_tests}
use Rattle.hl_base.specs.declared.change.Latest.{Latest}
use Rattle.hl_base.specs.declared.change.Splice.{Splice}
use Rattle.live_journal.specs.declared.edit.Edit.{Edit}
use Rattle.live_journal.specs.declared.edit.Edit.TheVariants as edits
use Rattle.live_journal.specs.Edits.{applied, splice_of, spliced}
use Rattle.live_journal.proofs.Changes.{made}
use Rattle.text_store.specs.declared.change.Change.TheVariants as change
use Rattle.text_store.specs.Changes.{HasShortName}
use Rattle.text_store.specs.Edits.{edited}
use Rattle.text_store.specs.Image.{with_mark}
use Rattle.text_store.proofs.Writable.{own_with, short_with}
use Rattle.desk.specs.declared.reply.Reply.TheVariants as reply
use Rattle.desk.specs.Keeping.{are_writable}
use Rattle.desk.specs.States.{State, change_with, edited_state, image_of, long_name, many_states, past_end, plain_change, states_with}
use Rattle.desk.proofs.Opened.{can_write, writes}

spliced_image : (s : State) (part : Splice) (new : List ℕ) → part.at + part.removed ≤ length s.text → spliced s.text part ≡ new
    → edited (image_of s) (change.Splice part) ≡ Some (record { text = new; latest = s.latest; revision = s.revision + 1 })
spliced_image s part new inside is =
    let within : nat_le (part.at + part.removed) (length s.text) ≡ true = grind (arith, nat_tests) in
    rw within (ap (λ (t : List ℕ). Some (record { text = t; latest = s.latest; revision = s.revision + 1 })) is)

plain_image : (s : State) (e : Edit) → (splice_of s.text e).at + (splice_of s.text e).removed ≤ length s.text
    → edited (image_of s) (plain_change s.text e) ≡ Some (record { text = applied s.text e; latest = s.latest; revision = s.revision + 1 })
plain_image s (edits.Add entry) inside = spliced_image s (splice_of s.text (edits.Add entry)) _ inside (made s.text (edits.Add entry))
plain_image s (edits.Change base item entry) inside = spliced_image s (splice_of s.text (edits.Change base item entry)) _ inside (made s.text (edits.Change base item entry))
plain_image s (edits.Replace base text) inside = refl

marked_image : (s : State) (mark : Latest) (part : Splice) (new : List ℕ) → part.at + part.removed ≤ length s.text → spliced s.text part ≡ new
    → nat_lt (length (with_mark mark s.latest)) (2 ^ 32) ≡ true
    → edited (image_of s) (change.Import mark part) ≡ Some (record { text = new; latest = with_mark mark s.latest; revision = s.revision + 1 })
marked_image s mark part new inside is few =
    let within : nat_le (part.at + part.removed) (length s.text) ≡ true = grind (arith, nat_tests) in
    rw (few, within) (ap (λ (t : List ℕ). Some (record { text = t; latest = with_mark mark s.latest; revision = s.revision + 1 })) is)

-- a number that isn't past its end
within_end : (n : ℕ) → past_end n ≡ None → nat_lt n (2 ^ 32) ≡ true
within_end n h = tested (nat_lt n (2 ^ 32)) h
  where
    tested : (b : Bool) → (if b then None else Some (reply.Full n (2 ^ 32 - 1))) ≡ None → b ≡ true
    tested true e = refl
    tested false e = cc

below_end : (n : ℕ) → past_end n ≡ None → n < 2 ^ 32
below_end n h = let within = within_end n h in grind (arith, nat_tests)

-- the image of a state after an edit is that of the store after the edit's change
pub edited_is : (s : State) (e : Edit) (mark : Option Latest) → (splice_of s.text e).at + (splice_of s.text e).removed ≤ length s.text → many_states (states_with mark s.latest) ≡ None
    → edited (image_of s) (change_with s.text e mark) ≡ Some (image_of (edited_state s (record { edit = e; mark = mark })))
edited_is s e None inside few = plain_image s e inside
edited_is s e (Some mark) inside few =
    marked_image s mark (splice_of s.text e) (applied s.text e) inside (made s.text e) (within_end (length (with_mark mark s.latest)) few)

plain_short : (text : List ℕ) (e : Edit) → HasShortName (plain_change text e)
plain_short text (edits.Add entry) = tt
plain_short text (edits.Change base item entry) = tt
plain_short text (edits.Replace base new) = tt

-- the name of an import that isn't too long is short
pub short_name : (text : List ℕ) (e : Edit) (mark : Option Latest) → long_name mark ≡ None → HasShortName (change_with text e mark)
short_name text e None h = plain_short text e
short_name text e (Some mark) h = below_end (length mark.name) h

-- and the states after it can be written
pub states_writable : (mark : Option Latest) (states : List Latest) → are_writable states ≡ true → long_name mark ≡ None → many_states (states_with mark states) ≡ None
    → IfSome (states_with mark states) (λ made. are_writable made ≡ true)
states_writable None states writable name few = tt
states_writable (Some mark) states writable name few =
    let old = writes (record { text = []; latest = states; revision = 0 }) writable in
    can_write (record { text = []; latest = with_mark mark states; revision = 0 })
    (record {
      few = below_end (length (with_mark mark states)) few;
      short = short_with mark states (below_end (length mark.name) name) old.short;
      own = own_with mark states old.own;
    })
