-- A connection that is answered to its end.
use Rattle.std.proofs.Common.{◌≡◌, ◌≢◌, ◌⊎◌, inl, inr, ⊎_elim, ℕ, Bool, true, false, if◌then◌else◌, List, [], Option, None, Some, IfSome, Result, Ok, Err, IsTrue, refl, sym, ◌∙◌, ap, subst}
use Rattle.hl_base.specs.Causes.{Rose}
use Rattle.hl_base.specs.declared.disk.Disk.{Ghosts as Disks}
use Rattle.hl_base.specs.declared.outside.Source.{Ghosts as Inputs}
use Rattle.hl_base.specs.declared.outside.Sink.{Ghosts as Outputs}
use Rattle.hl_base.specs.declared.shelf.Shelf.{Ghosts as Shelves}
use Rattle.hl_time.specs.declared.day.Day.{Day}
use Rattle.query_terms.specs.declared.making.Maker.{Ghosts as Makers}
use Rattle.journal_reader.specs.Items.{reading_from}
use Rattle.live_journal.specs.Loading.{fault_of}
use Rattle.live_journal.specs.declared.fault.OpenFault.{OpenFault}
use Rattle.live_journal.specs.declared.fault.OpenFault.TheVariants as unopened
use Rattle.text_store.specs.declared.image.Image.{Image}
use Rattle.text_store.specs.Image.{NoImage}
use Rattle.web_messages.specs.Streams.{IsOfWhole}
use Rattle.web_desk.specs.Counts.{Counted}
use Rattle.web_desk.specs.Ends.{EndsWell}
use Rattle.web_desk.specs.declared.conn_end.ConnEnd.{ConnEnd}
use Rattle.web_desk.specs.declared.conn_end.ConnEnd.TheVariants as conn
use Rattle.web_desk.specs.declared.conn_end.Way.TheVariants.{Read, Write}
use Rattle.desk.specs.Entries.{Entry}
use Rattle.desk.specs.declared.request.Allow.{Allow}
use Rattle.refusals.specs.Outcomes.{Outcome, refused}
use Rattle.refusals.specs.declared.refusal.Refusal.{Refusal}
use Rattle.refusals.specs.declared.refusal.Refusal.TheVariants as refusal
use Rattle.store_text.specs.Lending.{NoneFailed}
use Rattle.store_text.specs.Refusals.{text_in as text_of_store}
use Rattle.store_text.specs.Shelved.{image_under}
use Rattle.store_making.specs.Lines.{line_of as making_line, status_of as making_status}
use Rattle.store_making.specs.Refusals.{IsOfText}
use Rattle.store_making.specs.declared.refusal.JournalRefusal.{JournalRefusal}
use Rattle.store_making.specs.declared.refusal.JournalRefusal.TheVariants as making
use Rattle.store_commands.specs.Asking.{Patterns, told_by}
use Rattle.talk_commands.specs.Links.{IsHeld, Wire}
use Rattle.talk_commands.specs.Memory.{TalksFrom}
use Rattle.talk_commands.specs.Stores.{TalksStore}
use Rattle.command_words.specs.declared.task.Origin.{Origin}
use Rattle.command_words.specs.declared.task.Origin.TheVariants as origins
use Rattle.command_words.specs.declared.task.Talking.{Talking}
use Rattle.command_line.specs.Answers.{FindsText, IsOfSource, status_of}
use Rattle.command_line.specs.Complete.{CompletesTalk, IsDone, LoadsIn, NoneRose}
use Rattle.command_line.specs.Runs.{ReadsText}
use Rattle.command_line.specs.Scenes.{Scene, scene, soundness, text_in}
use Rattle.command_line.specs.Sources.{store_under, text_stored}
use Rattle.command_line.specs.StoreTasks.{RefusedAs}
use Rattle.command_line.specs.Talks.{RunsTalk, TalkedAfter, TalkedOver, TalkedText, TellsEnd, TellsTalk, ToldTalk, wire_in}
use Rattle.command_line.specs.declared.outside.Outside.{Outside}
use Rattle.command_line.proofs.Completing.{said_memory}

-- ---- a connection over whole messages

end_by : (end : ConnEnd) (ro rn wo wn : ℕ) → EndsWell end → Counted end ro rn wo wn → end ≢ conn.Spent → (Rose ro rn → ⊥) → (Rose wo wn → ⊥)
    → (end ≡ conn.Closed) ⊎ (end ≡ conn.Memory)
end_by conn.Closed ro rn wo wn well counted unspent reads writes = inl refl
end_by (conn.LinkFault Read) ro rn wo wn well counted unspent reads writes = absurd (reads counted.0)
end_by (conn.LinkFault Write) ro rn wo wn well counted unspent reads writes = absurd (writes counted.1)
end_by (conn.BadHead at) ro rn wo wn well counted unspent reads writes = absurd well
end_by conn.HeadTooLong ro rn wo wn well counted unspent reads writes = absurd well
end_by (conn.BodyTooLong said) ro rn wo wn well counted unspent reads writes = absurd well
end_by (conn.CutOff had said) ro rn wo wn well counted unspent reads writes = absurd well
end_by conn.Spent ro rn wo wn well counted unspent reads writes = absurd (unspent refl)
end_by (conn.HeadCut had) ro rn wo wn well counted unspent reads writes = absurd well
end_by conn.Memory ro rn wo wn well counted unspent reads writes = inr refl

held_end : (day : ℕ) (p : Patterns) (w : Wire) (end : ConnEnd) (entries : List Entry) (bytes : List ℕ) → IsHeld day p w end entries → w.coming ≡ Some bytes → IsOfWhole bytes
    → (Rose w.read_faults w.read_faults_now → ⊥) → (Rose w.write_faults w.write_faults_now → ⊥) → (end ≡ conn.Closed) ⊎ (end ≡ conn.Memory)
held_end day p w end entries bytes held is whole reads writes =
    let F : Option (List ℕ) → Type 0 = λ o. IfSome o (λ b. IsOfWhole b → EndsWell end) in
    let well : F (Some bytes) = subst F is held.whole in
    end_by end w.read_faults w.read_faults_now w.write_faults w.write_faults_now (well whole) held.counted held.unspent reads writes

-- its end is told
told_end : (end : ConnEnd) (status : ℕ) (old new : Option (List ℕ)) (fo fn : ℕ) → (end ≡ conn.Closed) ⊎ (end ≡ conn.Memory) → (Rose fo fn → ⊥)
    → TellsEnd end status old new fo fn → IsDone status
told_end end status old new fo fn (inl is) none told =
    let closed : TellsEnd conn.Closed status old new fo fn = subst (λ (e : ConnEnd). TellsEnd e status old new fo fn) is told in
    inl closed.0
told_end end status old new fo fn (inr is) none told =
    let memory : TellsEnd conn.Memory status old new fo fn = subst (λ (e : ConnEnd). TellsEnd e status old new fo fn) is told in
    ⊎_elim (λ h. inr h.0) (λ h. absurd (none h.1)) memory

-- ---- refusals

some_none : (f : OpenFault) → Some f ≡ None → ⊥
some_none f e = cc

err_ok : (o : Outcome) (text : List ℕ) → Err o ≡ Ok text → ⊥
err_ok o text e = cc

-- a text that loads is refused for want of memory alone
text_refused : (name : List ℕ) (e : JournalRefusal) (o : Option OpenFault) (x : Refusal) → o ≡ None → IsOfText e o
    → RefusedAs (making_status e) (making_line name e) x → status_of x ≡ 6
text_refused name (making.Store r) o x is of said = absurd of
text_refused name (making.Load fault) o x is of said = absurd (some_none (unopened.Load fault) (sym of ∙ is))
text_refused name (making.TooLarge limit size) o x is of said = absurd (some_none (unopened.TooLarge limit size) (sym of ∙ is))
text_refused name making.Memory o x is of (inl e) = ap status_of e
text_refused name making.Memory o x is of (inr e) = ap status_of e

-- why a text wasn't read that is there: memory ran out
pub unread_by : (origin : Origin) (x : Refusal) (told : Result (List ℕ) Outcome) (text : List ℕ) → told ≡ Ok text → FindsText (Err x) told → IsOfSource origin x
    → (x ≡ refusal.ReadFault → ⊥) → (x ≡ refusal.DiskFault → ⊥) → status_of x ≡ 6
unread_by origin (refusal.Line status line) told text is found kind read disk = absurd (err_ok (refused status line) text (sym found ∙ is))
unread_by origin (refusal.Pattern what line) told text is found kind read disk = absurd found
unread_by origin refusal.ReadFault told text is found kind read disk = absurd (read refl)
unread_by origin refusal.DiskFault told text is found kind read disk = absurd (disk refl)
unread_by origin refusal.Memory told text is found kind read disk = refl

-- ---- what is told of a file and of a store

abbrev pub told_text : List ℕ → Result (List ℕ) Outcome
told_text text = Ok text

abbrev unread : Refusal → Result (List ℕ) Refusal
unread x = Err x

pub ok_is : (a b : List ℕ) → told_text a ≡ told_text b → a ≡ b
ok_is a b e = ap of e
  where
    of : Result (List ℕ) Outcome → List ℕ
    of (Ok x) = x
    of (Err o) = a

pub told_so : (b : Bool) (o : Result (List ℕ) Outcome) (text : List ℕ) → (if b then Some o else None) ≡ Some (Ok text) → IsTrue b × (o ≡ Ok text)
told_so true o text e = (refl, ap of e)
  where
    of : Option (Result (List ℕ) Outcome) → Result (List ℕ) Outcome
    of None = o
    of (Some x) = x
told_so false o text e = absurd cc

pub shown_so : (name : List ℕ) (found : Option (Result Image NoImage)) (text : List ℕ) → text_stored name (text_of_store found) ≡ Ok text
    → (shown : Image) × (found ≡ Some (Ok shown)) × (shown.text ≡ text)
shown_so name None text e = absurd cc
shown_so name (Some (Ok shown)) text e = (shown, refl, ok_is shown.text text e)
shown_so name (Some (Err none)) text e = absurd cc

-- what was read of a text that is there
pub read_so : (origin : Origin) (old new : Scene) (text : List ℕ) (read : Result (List ℕ) Refusal) → ReadsText origin read old new → text_in origin old ≡ Some (Ok text)
    → FindsText read (Ok text)
read_so origin old new text read reads is =
    let F : Option (Result (List ℕ) Outcome) → Type 0 = λ o. IfSome o (FindsText read) in
    subst F is reads.found

-- ---- its end

-- all was answered, or memory ran out
abbrev GoodEnd : Result ConnEnd Refusal → Type 0
GoodEnd (Ok end) = (end ≡ conn.Closed) ⊎ (end ≡ conn.Memory)
GoodEnd (Err x) = status_of x ≡ 6

-- whole messages come over a link of which no call fails
record IsWholeWire (w : Wire) : Type 0 where
  bytes : List ℕ
  is : w.coming ≡ Some bytes
  whole : IsOfWhole bytes
  reads : Rose w.read_faults w.read_faults_now → ⊥
  writes : Rose w.write_faults w.write_faults_now → ⊥

end_is : (a b : ConnEnd) → a ≡ b → (b ≡ conn.Closed) ⊎ (b ≡ conn.Memory) → (a ≡ conn.Closed) ⊎ (a ≡ conn.Memory)
end_is a b is h = subst (λ (x : ConnEnd). (x ≡ conn.Closed) ⊎ (x ≡ conn.Memory)) (sym is) h

text_good : (name text : List ℕ) (level : Allow) (day : ℕ) (p : Patterns) (w : Wire) (made : Result ConnEnd JournalRefusal) (r : Result ConnEnd Refusal)
    → TalksFrom text level day p w made → ToldTalk name made r → fault_of None text ≡ None → IsWholeWire w → GoodEnd r
text_good name text level day p w (Ok end) (Ok told) talks is loads wire =
    end_is told end is (held_end day p w end talks.entries wire.bytes talks.held wire.is wire.whole wire.reads wire.writes)
text_good name text level day p w (Ok end) (Err x) talks is loads wire = absurd is
text_good name text level day p w (Err e) (Ok told) talks is loads wire = absurd is
text_good name text level day p w (Err e) (Err x) talks is loads wire = text_refused name e (fault_of None text) x loads talks.0 is

pub memory_of : (name : List ℕ) (e : JournalRefusal) (x : Refusal) → e ≡ making.Memory → RefusedAs (making_status e) (making_line name e) x → status_of x ≡ 6
memory_of name e x is said =
    let at : RefusedAs (making_status making.Memory) (making_line name making.Memory) x =
    subst (λ (y : JournalRefusal). RefusedAs (making_status y) (making_line name y) x) is said in
    ⊎_elim (λ h. ap status_of h) (λ h. ap status_of h) at

store_good : {S D : Type 0} (s : Shelves S D) (g : Disks D) (name : List ℕ) (level : Allow) (day : ℕ) (p : Patterns) (w : Wire) (old new : S) (made : Result ConnEnd JournalRefusal)
    (r : Result ConnEnd Refusal) → TalksStore s g name level day p w old new made → ToldTalk name made r → IsTrue ((s.tells old).files) → (shown : Image)
    → image_under (s.file old) name ≡ Some (Ok shown) → fault_of None shown.text ≡ None → NoneFailed s old new → IsWholeWire w → GoodEnd r
store_good s g name level day p w old new (Ok end) (Ok told) talks is files shown image loads none wire =
    end_is told end is (held_end day p w end talks.outcome.entries wire.bytes talks.outcome.held wire.is wire.whole wire.reads wire.writes)
store_good s g name level day p w old new (Ok end) (Err x) talks is files shown image loads none wire = absurd is
store_good s g name level day p w old new (Err e) (Ok told) talks is files shown image loads none wire = absurd is
store_good s g name level day p w old new (Err e) (Err x) talks is files shown image loads none wire =
    memory_of name e x (talks.outcome.complete files shown image loads none) is

told_good : (r : Result ConnEnd Refusal) (status : ℕ) (old new : Scene) → GoodEnd r → TellsTalk status old new r → (Rose old.error_faults new.error_faults → ⊥) → IsDone status
told_good (Ok end) status old new good told none = told_end end status old.error new.error old.error_faults new.error_faults good none told
told_good (Err x) status old new good told none = said_memory x status old.error new.error old.error_faults new.error_faults good none told

-- ---- a run

-- whole messages come, and no call of the input or the output failed on the way to these objects
record IsSoundWay {J O E S M : Type 0} (j : Inputs J) (o : Outputs O) (old last : Outside J O E S M) (bytes : List ℕ) : Type 0 where
  left : j.left old.streams.input ≡ Some bytes
  whole : IsOfWhole bytes
  reads : Rose (j.faults old.streams.input) (j.faults last.streams.input) → ⊥
  writes : Rose (o.faults old.streams.output) (o.faults last.streams.output) → ⊥

abbrev IsGood : {J O E S M : Type 0} → Outside J O E S M → Outside J O E S M → Result ConnEnd Refusal → Type 0
IsGood old last r = GoodEnd r × (last.err ≡ old.err)

module _ {J O E S D M : Type 0} (j : Inputs J) (o : Outputs O) (e : Outputs E) (s : Shelves S D) (g : Disks D) (m : Makers M) (level : Allow) (day : Day) where
  abbrev sc : Outside J O E S M → Scene
  sc x = scene j o e s m x

  whole_wire : (old last : Outside J O E S M) (bytes : List ℕ) → IsSoundWay j o old last bytes → IsWholeWire (wire_in (sc old) (sc last))
  whole_wire old last bytes way = record { bytes = bytes; is = way.left; whole = way.whole; reads = way.reads; writes = way.writes }

  text_over : (text : List ℕ) (old last : Outside J O E S M) (r : Result ConnEnd Refusal) (bytes : List ℕ) → TalkedText sc m text level day old last r → fault_of None text ≡ None
      → IsSoundWay j o old last bytes → IsGood old last r
  text_over text old last r bytes talked loads way = (
    text_good [] text level day.0 (told_by m old.maker last.maker) (wire_in (sc old) (sc last)) talked.made r talked.talks talked.told loads (whole_wire old last bytes way),
    ap (λ (x : Outside J O E S M). x.err) talked.rest,
  )

  after_over : (name text : List ℕ) (old mid last : Outside J O E S M) (read : Result (List ℕ) Refusal) (r : Result ConnEnd Refusal) (bytes : List ℕ)
      → ReadsText (origins.File name) read (sc old) (sc mid) → mid ≡ record old { shelf = mid.shelf } → TalkedAfter sc m level day read mid last r
      → text_in (origins.File name) (sc old) ≡ Some (Ok text) → fault_of None text ≡ None → IsSoundWay j o old last bytes
      → (Rose (s.faults old.shelf) (s.faults last.shelf) → ⊥) → IsGood old last r
  after_over name text old mid last (Ok read) r bytes reads rest after is loads way shelf =
      let same : read ≡ text = sym (ok_is text read (read_so (origins.File name) (sc old) (sc mid) text (Ok read) reads is)) in
      let input : mid.streams.input ≡ old.streams.input = ap (λ (x : Outside J O E S M). x.streams.input) rest in
      let output : mid.streams.output ≡ old.streams.output = ap (λ (x : Outside J O E S M). x.streams.output) rest in
      let over = text_over read mid last r bytes after (subst (λ (t : List ℕ). fault_of None t ≡ None) (sym same) loads)
      (record {
        left = ap (λ (x : J). j.left x) input ∙ way.left;
        whole = way.whole;
        reads = λ rose. way.reads (subst (λ (x : J). Rose (j.faults x) (j.faults last.streams.input)) input rose);
        writes = λ rose. way.writes (subst (λ (x : O). Rose (o.faults x) (o.faults last.streams.output)) output rose);
      }) in
      (over.0, over.1 ∙ ap (λ (x : Outside J O E S M). x.err) rest)
  after_over name text old mid last (Err x) r bytes reads rest after is loads way shelf =
      let six : status_of x ≡ 6 = unread_by (origins.File name) x (Ok text) text refl (read_so (origins.File name) (sc old) (sc mid) text (Err x) reads is) reads.kind
      (λ fault. shelf (subst (λ (y : Outside J O E S M). Rose (s.faults old.shelf) (s.faults y.shelf)) (sym after.1) (reads.rose (ap (λ (y : Refusal). unread y) fault)).0))
      (λ fault. subst (λ (y : Refusal). IsOfSource (origins.File name) y) fault reads.kind) in
      (subst (λ (y : Result ConnEnd Refusal). GoodEnd y) (sym after.0) six, ap (λ (y : Outside J O E S M). y.err) after.1 ∙ ap (λ (y : Outside J O E S M). y.err) rest)

  over_good : (origin : Origin) (old last : Outside J O E S M) (r : Result ConnEnd Refusal) (bytes : List ℕ) → TalkedOver sc s g m origin level day old last r → LoadsIn origin (sc old)
      → fault_of None [] ≡ None → IsSoundWay j o old last bytes → NoneFailed s old.shelf last.shelf → IsGood old last r
  over_good origins.Input old last r bytes talked loads empty way none = text_over [] old last r bytes talked empty way
  over_good (origins.File name) old last r bytes talked loads empty way none =
      after_over name loads.0 old talked.mid last talked.read r bytes talked.reads talked.rest talked.talks loads.1 loads.2 way none.0
  over_good (origins.Store name) old last r bytes talked loads empty way none =
      let told = told_so ((s.tells old.shelf).files) (store_under (s.file old.shelf) name) loads.0 loads.1 in
      let shown = shown_so name (image_under (s.file old.shelf) name) loads.0 told.1 in (
        store_good s g name level day.0 (told_by m old.maker last.maker) (wire_in (sc old) (sc last)) old.shelf last.shelf talked.made r talked.talks talked.told told.0 shown.0
            shown.1 (subst (λ (t : List ℕ). fault_of None t ≡ None) (sym shown.2) loads.2) none (whole_wire old last bytes way),
        ap (λ (x : Outside J O E S M). x.err) talked.rest,
      )

-- the empty text loads
empty_loads : fault_of None [] ≡ None
unfolding reading_from
empty_loads = refl

module _ {J O E S D M : Type 0} (j : Inputs J) (o : Outputs O) (e : Outputs E) (s : Shelves S D) (g : Disks D) (m : Makers M) (what : Talking) (day : Day) (status : ℕ)
    (old new : Outside J O E S M) where
  abbrev pub Runs : Type 0
  Runs = RunsTalk (scene j o e s m) (soundness j o e s) s g m what day status old new

  by_way : (runs : Runs) → NoneRose (scene j o e s m old) (scene j o e s m new) → LoadsIn what.origin (scene j o e s m old) → (bytes : List ℕ)
      → j.left old.streams.input ≡ Some bytes → IsOfWhole bytes → IsGood old runs.last runs.end
  by_way runs none loads bytes left whole =
      ⊎_elim
      (λ talked. over_good j o e s g m what.allow day what.origin old runs.last runs.end bytes talked loads empty_loads
      (record {
        left = left;
        whole = whole;
        reads = λ rose. none.reads (subst (λ (x : J). Rose (j.faults old.streams.input) (j.faults x)) (sym (ap (λ x. x.input) runs.stays.2)) rose);
        writes = λ rose. none.output (subst (λ (x : O). Rose (o.faults old.streams.output) (o.faults x)) (sym (ap (λ x. x.output) runs.stays.2)) rose);
      }) (
        λ rose. none.shelf (subst (λ (x : S). Rose (s.faults old.shelf) (s.faults x)) (sym runs.stays.0) rose),
        λ rose. none.disks (subst (λ (x : S). Rose (s.disk_faults old.shelf) (s.disk_faults x)) (sym runs.stays.0) rose),
      ))
      (λ h. (subst (λ (y : Result ConnEnd Refusal). GoodEnd y) (sym h.0) refl, ap (λ (x : Outside J O E S M). x.err) h.1))
      runs.talked

  pub complete_talk : Runs → CompletesTalk what status (scene j o e s m old) (scene j o e s m new)
  complete_talk runs = λ none loads bytes left whole.
      let good = by_way runs none loads bytes left whole in
      told_good runs.end status (scene j o e s m runs.last) (scene j o e s m new) good.0 runs.told
      (λ rose. none.error (subst (λ (x : E). Rose (e.faults x) (e.faults new.err)) good.1 rose))
