-- How a machine serves an import, by what became of its file.
use Rattle.std.proofs.Common.{◌≡◌, inl, inr, ℕ, false, List, [], ◌∷◌, map, Option, Some, None, Result, Ok, Err, refl, ap, sym, subst, ◌∙◌}
use Rattle.std.specs.Prelude.{IfErr}
use Rattle.hl_base.specs.declared.disk.Disk.{Ghosts}
use Rattle.book.specs.declared.transaction.Txn.{Txn}
use Rattle.query.specs.Building.{IsOneOf}
use Rattle.query_terms.specs.Making.{Stays as MakerStays}
use Rattle.desk.specs.declared.csv_fault.CsvFault.{CsvFault}
use Rattle.desk.specs.declared.deed.Deed.{Deed}
use Rattle.desk.specs.declared.desk.Desk.{Desk}
use Rattle.desk.specs.declared.request.Allow.TheVariants as allow
use Rattle.desk.specs.declared.request.Request.{Request}
use Rattle.desk.specs.declared.request.Request.TheVariants as request
use Rattle.desk.specs.declared.reply.Reply.{Reply}
use Rattle.desk.specs.declared.reply.Reply.TheVariants as reply
use Rattle.desk.specs.Desks.{Serves, state_of}
use Rattle.desk.specs.DryRuns.{IsRefusal}
use Rattle.desk.specs.Files.{IsDeedOf, TellsDeed, TellsUnmade, Unmade}
use Rattle.desk.specs.Imports.{entries_of, new_deed, pattern_lines}
use Rattle.desk.specs.States.{Answer, State, deed_answer, deed_of_file, file_answer, forbidden, import_answer, or_replies, refusals, refused_line, stays, unless_forbidden}
use Rattle.desk.specs.Steps.{Gives, TellsReply, is_done}
use Rattle.desk.proofs.Quiet.{no_others}
use Rattle.live_journal.specs.Loading.{first_of}

-- a refused pattern is no edit that stands
refused_undone : (lines : List ℕ) (r : Reply) → IsOneOf r (map refused_line lines) → is_done r ≡ false
refused_undone [] r among = absurd among
refused_undone (line ∷ lines) r (inl is) = sym (ap is_done is)
refused_undone (line ∷ lines) r (inr among) = refused_undone lines r among

-- nothing else is replied to an import of entries
pub no_more : (s : State) (d : Option Deed) (r : Reply) → IsOneOf r (deed_answer s d).others → ⊥
no_more s None r among = among
no_more s (Some d) r among = no_others s d (first_of (refusals s allow.Add d)) r among

wider : (others : List Reply) (s : State) (made d : Option Deed) (old : State) (before : ℕ) (r : Reply) (new : State) (after : ℕ)
    → Gives (deed_answer s made) d old before r new after → Gives (or_replies others (deed_answer s made)) d old before r new after
wider others s made d old before r new after (inl h) = inl h
wider others s made d old before r new after (inr (inl h)) = inr (inl h)
wider others s made d old before r new after (inr (inr (inl h))) = inr (inr (inl h))
wider others s made d old before r new after (inr (inr (inr h))) = absurd (no_more s made r h.0)

-- the replies that a refused pattern may be given
abbrev pub others_of : List ℕ → List Reply
others_of rules = map refused_line (pattern_lines rules)

-- ---- an import that is refused

-- what an import is answered that is allowed
pub allowed_answer : (name rules csv : List ℕ) (s : State) → forbidden s.allowed allow.Add ≡ None
    → import_answer s name rules csv ≡ or_replies (others_of rules) (file_answer s name (entries_of rules csv))
allowed_answer name rules csv s f = ap (λ (o : Option Reply). unless_forbidden s o (or_replies (others_of rules) (file_answer s name (entries_of rules csv)))) f

module _ (name rules csv : List ℕ) (s : State) where
  -- it isn't allowed
  pub forbidden_import : (r : Reply) → forbidden s.allowed allow.Add ≡ Some r → is_done r ≡ false → IsRefusal s (import_answer s name rules csv) r
  forbidden_import r f undone =
      let answer = or_replies (others_of rules) (file_answer s name (entries_of rules csv)) in
      subst (λ (o : Option Reply). IsRefusal s (unless_forbidden s o answer) r) (sym f) (undone, inr (inl (refl, refl)))

  -- its file becomes no entries
  pub unmade : (r : Reply) → forbidden s.allowed allow.Add ≡ None → Unmade rules csv r → IsRefusal s (import_answer s name rules csv) r
  unmade r f (inl h) = (ap is_done h, inl h)
  unmade r f (inr (inl h)) =
      let answer = allowed_answer name rules csv s f ∙ ap (λ (entries : Result (List Txn) CsvFault). or_replies (others_of rules) (file_answer s name entries)) h.1 in
      let refused : IsRefusal s (or_replies (others_of rules) (stays s (reply.Csv h.0))) (reply.Csv h.0) = (refl, inr (inl (refl, refl))) in
      subst (λ (x : Reply). IsRefusal s (import_answer s name rules csv) x) (sym h.2)
      (subst (λ (a : Answer). IsRefusal s a (reply.Csv h.0)) (sym answer) refused)
  unmade r f (inr (inr among)) =
      let refused : IsRefusal s (or_replies (others_of rules) (file_answer s name (entries_of rules csv))) r = (refused_undone (pattern_lines rules) r among, inr (inr among)) in
      subst (λ (a : Answer). IsRefusal s a r) (sym (allowed_answer name rules csv s f)) refused

-- memory ran out before it is known what it puts in
pub out_of_room : (s : State) (answer : Answer) (made : Result (Option Deed) Reply) → IfErr made (λ r. r ≡ reply.Memory) → IfErr made (IsRefusal s answer)
out_of_room s answer (Ok deed) h = tt
out_of_room s answer (Err r) h = (ap is_done h, inl h)

pub tells_room : (q : Request) (day before now : ℕ) (last_before last_now : Option (List ℕ)) (made : Result (Option Deed) Reply)
    → MakerStays before now last_before last_now → IfErr made (λ r. r ≡ reply.Memory) → TellsDeed q day before now last_before last_now made
tells_room q day before now last_before last_now (Ok deed) stays h = stays
tells_room q day before now last_before last_now (Err r) stays h =
    subst (λ (x : Reply). TellsReply q day before now last_before last_now x) (sym h) stays

-- ---- an import that puts in entries

-- what it puts in
pub file_deed : (s : State) (name : List ℕ) (entries : Result (List Txn) CsvFault) (deed : Option Deed) → IsDeedOf s name entries deed → deed_of_file s name entries ≡ deed
file_deed s name entries deed h = ap (λ (x : Result (List Txn) CsvFault). deed_of_file s name x) h.made ∙ sym h.is

module _ {D : Type 0} {g : Ghosts D} (name rules csv : List ℕ) where
  -- its entries are put in
  entries_in : (old new : Desk D g) (txns : List Txn) (r : Reply) → forbidden old.allow allow.Add ≡ None → entries_of rules csv ≡ Ok txns
      → Serves (deed_answer (state_of old) (new_deed old.live.text old.latest name txns)) (new_deed old.live.text old.latest name txns) old r new
      → Serves (import_answer (state_of old) name rules csv) (deed_of_file (state_of old) name (entries_of rules csv)) old r new
  entries_in old new txns r f made h =
      let s = state_of old in
      let d = new_deed old.live.text old.latest name txns in
      let served : Serves (or_replies (others_of rules) (deed_answer s d)) d old r new = record {
        gives = wider (others_of rules) s d d _ _ _ _ _ h.gives;
        stands = h.stands;
        crash = h.crash;
        keeps = h.keeps;
        no_wider = h.no_wider;
      } in
      subst (λ (a : Answer). Serves a (deed_of_file s name (entries_of rules csv)) old r new) (sym (allowed_answer name rules csv s f))
      (subst (λ (entries : Result (List Txn) CsvFault). Serves (or_replies (others_of rules) (file_answer s name entries)) (deed_of_file s name entries) old r new) (sym made) served)

  pub put_in : (old new : Desk D g) (deed : Option Deed) (r : Reply) → IsDeedOf (state_of old) name (entries_of rules csv) deed → Serves (deed_answer (state_of old) deed) deed old r new
      → Serves (import_answer (state_of old) name rules csv) (deed_of_file (state_of old) name (entries_of rules csv)) old r new
  put_in old new deed r is h =
      entries_in old new is.txns r is.allowed is.made (subst (λ (d : Option Deed). Serves (deed_answer (state_of old) d) d old r new) is.is h)

module _ (name rules csv : List ℕ) (day before now : ℕ) (last_before last_now : Option (List ℕ)) where
  told_line : (lines : List ℕ) (r : Reply) → IsOneOf r (map refused_line lines) → TellsUnmade rules before now last_before last_now r
      → TellsReply (request.Import name rules csv) day before now last_before last_now r
  told_line [] r among tells = absurd among
  told_line (line ∷ lines) r (inl is) tells =
      subst (λ (x : Reply). TellsReply (request.Import name rules csv) day before now last_before last_now x) is (subst (λ (x : Reply). TellsUnmade rules before now last_before last_now x) (sym is) tells)
  told_line (line ∷ lines) r (inr more) tells = told_line lines r more tells

  -- what the maker tells of a file that becomes no entries
  pub tells_unmade : (r : Reply) → Unmade rules csv r → TellsUnmade rules before now last_before last_now r
      → TellsReply (request.Import name rules csv) day before now last_before last_now r
  tells_unmade r (inl h) tells =
      subst (λ (x : Reply). TellsReply (request.Import name rules csv) day before now last_before last_now x) (sym h) (subst (λ (x : Reply). TellsUnmade rules before now last_before last_now x) h tells)
  tells_unmade r (inr (inl h)) tells =
      subst (λ (x : Reply). TellsReply (request.Import name rules csv) day before now last_before last_now x) (sym h.2) (subst (λ (x : Reply). TellsUnmade rules before now last_before last_now x) h.2 tells)
  tells_unmade r (inr (inr among)) tells = told_line (pattern_lines rules) r among tells

-- the same of a request that is seen as an import
pub tells_import : (q : Request) (name rules csv : List ℕ) (day before now : ℕ) (last_before last_now : Option (List ℕ)) (r : Reply) → q ≡ request.Import name rules csv
    → TellsReply (request.Import name rules csv) day before now last_before last_now r → TellsReply q day before now last_before last_now r
tells_import q name rules csv day before now last_before last_now r is h =
    subst (λ (x : Request). TellsReply x day before now last_before last_now r) (sym is) h
