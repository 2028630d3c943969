-- Replies after which the maker of patterns tells what it told before.
use Rattle.std.proofs.Common.{◌≡◌, ◌⊎◌, inl, inr, ℕ, ◌+◌, ◌^◌, ◌-◌, Bool, true, false, if◌then◌else◌, nat_lt, List, [], ◌∷◌, length, Option, Some, None, refl, ap, ◌∙◌}
use Rattle.std.specs.Str.{bytes_eq}
use Rattle.hl_base.specs.declared.change.Latest.{Latest}
use Rattle.query.specs.Building.{IsOneOf}
use Rattle.query_terms.specs.Making.{Stays as MakerStays}
use Rattle.live_journal.specs.declared.fault.EditFault.{EditFault}
use Rattle.live_journal.specs.declared.fault.EditFault.TheVariants as refused
use Rattle.live_journal.specs.Edits.{applied}
use Rattle.live_journal.specs.Loading.{first_of}
use Rattle.live_journal.specs.Refusals.{refusal_of}
use Rattle.desk.specs.declared.deed.Deed.{Deed}
use Rattle.desk.specs.declared.request.Allow.{Allow}
use Rattle.desk.specs.declared.request.Allow.TheVariants as allow
use Rattle.desk.specs.declared.request.Request.{Request}
use Rattle.desk.specs.declared.reply.Reply.{Reply}
use Rattle.desk.specs.declared.reply.Reply.TheVariants as reply
use Rattle.desk.specs.Previews.{revision_line}
use Rattle.desk.specs.States.{State, change_of, check_answer, covers, deed_answer, edit_answer, forbidden, is_due, journal_of, last_revision, long_name, many_states, no_room, or_done, record_size, refusals, states_with, unaccepted, unchanged}
use Rattle.desk.specs.Steps.{Gives, TellsReply, is_words}
use Rattle.desk.proofs.DryLaws.{text_or}

-- a reply that isn't about words or a file
pub tells_quietly : (q : Request) (day before now : ℕ) (last_before last_now : Option (List ℕ)) (r : Reply) → is_words r ≡ false
    → MakerStays before now last_before last_now → TellsReply q day before now last_before last_now r
tells_quietly q day before now last_before last_now (reply.Done revision) h stays = stays
tells_quietly q day before now last_before last_now (reply.Same revision) h stays = stays
tells_quietly q day before now last_before last_now (reply.Text revision bytes) h stays = stays
tells_quietly q day before now last_before last_now (reply.Forbidden need have) h stays = stays
tells_quietly q day before now last_before last_now (reply.Stale base current) h stays = stays
tells_quietly q day before now last_before last_now (reply.BadBase base current) h stays = stays
tells_quietly q day before now last_before last_now (reply.NoSuchItem n count) h stays = stays
tells_quietly q day before now last_before last_now (reply.NotTransactions line) h stays = stays
tells_quietly q day before now last_before last_now (reply.Load fault) h stays = stays
tells_quietly q day before now last_before last_now (reply.TooLarge limit size) h stays = stays
tells_quietly q day before now last_before last_now (reply.DiskFault from to) h stays = stays
tells_quietly q day before now last_before last_now (reply.Words fault) h stays = absurd (cc (h))
tells_quietly q day before now last_before last_now (reply.Csv fault) h stays = absurd (cc (h))
tells_quietly q day before now last_before last_now (reply.Full size limit) h stays = stays
tells_quietly q day before now last_before last_now reply.Memory h stays = stays

pub quiet : (q : Request) (day before : ℕ) (last : Option (List ℕ)) (r : Reply) → is_words r ≡ false → TellsReply q day before before last last r
quiet q day before last r h = tells_quietly q day before before last last r h (record { count = refl; told = refl })

-- a download
pub quiet_download : (q : Request) (day before : ℕ) (last : Option (List ℕ)) (revision : ℕ) (text : List ℕ) (r : Reply)
    → (r ≡ reply.Memory) ⊎ (r ≡ reply.Text revision text) → TellsReply q day before before last last r
quiet_download q day before last revision text r (inl h) = quiet q day before last r (ap is_words h)
quiet_download q day before last revision text r (inr h) = quiet q day before last r (ap is_words h)

-- a refusal, if there is one, isn't about words
abbrev NoWords : Option Reply → Type 0
NoWords None = Unit {0}
NoWords (Some r) = is_words r ≡ false

allowed_quiet : (covered : Bool) (need have : Allow) → NoWords (if covered then None else Some (reply.Forbidden need have))
allowed_quiet true need have = tt
allowed_quiet false need have = refl

same_quiet : (same : Bool) (revision : ℕ) → NoWords (if same then Some (reply.Same revision) else None)
same_quiet true revision = refl
same_quiet false revision = tt

room_quiet : (due past : Bool) (size limit : ℕ) → NoWords (if due then (if past then Some (reply.Full size limit) else None) else None)
room_quiet true true size limit = refl
room_quiet true false size limit = tt
room_quiet false past size limit = tt

last_quiet : (more : Bool) (size limit : ℕ) → NoWords (if more then None else Some (reply.Full size limit))
last_quiet true size limit = tt
last_quiet false size limit = refl

end_quiet : (n : ℕ) (within : Bool) → NoWords (if within then None else Some (reply.Full n (2 ^ 32 - 1)))
end_quiet n true = tt
end_quiet n false = refl

name_quiet : (mark : Option Latest) → NoWords (long_name mark)
name_quiet None = tt
name_quiet (Some mark) = end_quiet (length mark.name) (nat_lt (length mark.name) (2 ^ 32))

states_quiet : (states : Option (List Latest)) → NoWords (many_states states)
states_quiet None = tt
states_quiet (Some states) = end_quiet (length states) (nat_lt (length states) (2 ^ 32))

accepted_quiet : (o : Option EditFault) → NoWords (unaccepted o)
accepted_quiet None = tt
accepted_quiet (Some (refused.BadBase base current)) = refl
accepted_quiet (Some (refused.Stale base current)) = refl
accepted_quiet (Some (refused.NoSuchItem n count)) = refl
accepted_quiet (Some (refused.NotTransactions line)) = refl
accepted_quiet (Some (refused.TooLarge limit size)) = refl
accepted_quiet (Some (refused.Load fault)) = refl
accepted_quiet (Some refused.Memory) = refl

-- nor is the first of two lists of refusals
next_quiet : (o : Option Reply) (rest : List (Option Reply)) → NoWords o → NoWords (first_of rest) → NoWords (first_of (o ∷ rest))
next_quiet None rest h more = more
next_quiet (Some r) rest h more = h

refusals_quiet : (s : State) (need : Allow) (d : Deed) → NoWords (first_of (refusals s need d))
refusals_quiet s need d =
    let refused_by = unaccepted (refusal_of (journal_of s) d.edit) in
    let whole = unchanged (applied s.text d.edit) s.text s.revision in
    let room = no_room s (record_size (change_of s.text d)) in
    let last = last_revision s.revision in
    let name = long_name d.mark in
    let states = many_states (states_with d.mark s.latest) in
    next_quiet (forbidden s.allowed need) (refused_by ∷ whole ∷ room ∷ last ∷ name ∷ states ∷ []) (allowed_quiet (covers s.allowed need) _ _)
    (next_quiet refused_by (whole ∷ room ∷ last ∷ name ∷ states ∷ []) (accepted_quiet (refusal_of (journal_of s) d.edit))
    (next_quiet whole (room ∷ last ∷ name ∷ states ∷ []) (same_quiet (bytes_eq (applied s.text d.edit) s.text) _)
    (next_quiet room (last ∷ name ∷ states ∷ []) (room_quiet (is_due s (record_size (change_of s.text d))) _ _ _)
    (next_quiet last (name ∷ states ∷ []) (last_quiet (nat_lt s.revision (2 ^ 62)) _ _)
    (next_quiet name (states ∷ []) (name_quiet d.mark)
    (next_quiet states [] (states_quiet (states_with d.mark s.latest)) tt))))))

done_quiet : (s : State) (d : Deed) (o : Option Reply) → NoWords o → is_words (or_done s d o).reply ≡ false
done_quiet s d None h = refl
done_quiet s d (Some r) h = h

-- nothing else is replied
pub no_others : (s : State) (d : Deed) (o : Option Reply) (r : Reply) → IsOneOf r (or_done s d o).others → ⊥
no_others s d None r among = among
no_others s d (Some x) r among = among

gives_quiet : (s : State) (need : Allow) (d : Deed) (e : Option Deed) (old : State) (before : ℕ) (r : Reply) (new : State) (after : ℕ)
    → Gives (edit_answer s need d) e old before r new after → is_words r ≡ false
gives_quiet s need d e old before r new after (inl h) = ap is_words h.0 ∙ done_quiet s d (first_of (refusals s need d)) (refusals_quiet s need d)
gives_quiet s need d e old before r new after (inr (inl h)) = ap is_words h.0
gives_quiet s need d e old before r new after (inr (inr (inl h))) = ap is_words h.0
gives_quiet s need d e old before r new after (inr (inr (inr h))) = absurd (no_others s d (first_of (refusals s need d)) r h.0)

-- an import of entries isn't about its file
pub deed_quiet : (s : State) (d e : Option Deed) (old : State) (before : ℕ) (r : Reply) (new : State) (after : ℕ)
    → Gives (deed_answer s d) e old before r new after → is_words r ≡ false
deed_quiet s (Some d) e old before r new after h = gives_quiet s allow.Add d e old before r new after h
deed_quiet s None e old before r new after (inl h) = ap is_words h.0
deed_quiet s None e old before r new after (inr (inl h)) = ap is_words h.0
deed_quiet s None e old before r new after (inr (inr (inl h))) = ap is_words h.0
deed_quiet s None e old before r new after (inr (inr (inr h))) = absurd h.0

-- an edit
pub quiet_edit : (q : Request) (day count : ℕ) (last : Option (List ℕ)) (s : State) (need : Allow) (d : Deed) (e : Option Deed) (old : State) (before : ℕ) (r : Reply) (new : State) (after : ℕ)
    → Gives (edit_answer s need d) e old before r new after → TellsReply q day count count last last r
quiet_edit q day count last s need d e old before r new after h = quiet q day count last r (gives_quiet s need d e old before r new after h)

-- a check
pub quiet_check : (q : Request) (day count : ℕ) (last : Option (List ℕ)) (s : State) (d : Deed) (e : Option Deed) (old : State) (before : ℕ) (r : Reply) (new : State) (after : ℕ)
    → Gives (check_answer s d) e old before r new after → TellsReply q day count count last last r
quiet_check q day count last s d e old before r new after (inl h) =
    let line = revision_line (s.revision + 1) in
    let own = done_quiet s d (first_of (refusals s allow.Add d)) (refusals_quiet s allow.Add d) in
    quiet q day count last r (ap is_words h.0 ∙ text_or (λ (x : Reply). is_words x ≡ false) s.revision line (edit_answer s allow.Add d).reply refl own)
quiet_check q day count last s d e old before r new after (inr (inl h)) = quiet q day count last r (ap is_words h.0)
quiet_check q day count last s d e old before r new after (inr (inr (inl h))) = quiet q day count last r (ap is_words h.0)
quiet_check q day count last s d e old before r new after (inr (inr (inr h))) = absurd (no_others s d (first_of (refusals s allow.Add d)) r h.0)
