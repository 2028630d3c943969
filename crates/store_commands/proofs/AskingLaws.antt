-- What two disks come to that were opened as a machine and asked once, and two that weren't opened.
use Rattle.std.proofs.Common.{◌≡◌, ◌≢◌, inl, inr, ℕ, true, List, Option, None, Some, Result, Ok, refl, sym, ◌∙◌, ap, subst, arith}
use Rattle.hl_base.specs.Causes.{Rose}
use Rattle.hl_base.specs.declared.disk.Disk.{Ghosts as Disks}
use Rattle.hl_time.specs.declared.day.Day.{Day}
use Rattle.live_journal.specs.declared.fault.OpenFault.{OpenFault}
use Rattle.live_journal.specs.declared.fault.OpenFault.TheVariants as unopened_text
use Rattle.live_journal.specs.Loading.{fault_of}
use Rattle.text_store.specs.declared.fault.StoreFault.TheVariants as store_fault
use Rattle.text_store.specs.declared.image.Image.{Image}
use Rattle.text_store.specs.Image.{NoImage, image}
use Rattle.text_store.specs.Stores.{fault_count}
use Rattle.desk.specs.declared.desk.Desk.{Desk}
use Rattle.desk.specs.declared.fault.DeskFault.{DeskFault}
use Rattle.desk.specs.declared.fault.DeskFault.TheVariants as desk_fault
use Rattle.desk.specs.declared.reply.Reply.{Reply}
use Rattle.desk.specs.declared.request.Allow.TheVariants as allow
use Rattle.desk.specs.declared.request.Request.{Request}
use Rattle.desk.specs.Desks.{faults_of, shown_by, state_of}
use Rattle.desk.specs.Openings.{OpeningRefused}
use Rattle.desk.specs.States.{State, answer_to, deed_in, image_of}
use Rattle.desk.specs.Steps.{Completes, Step, is_fault, next_of}
use Rattle.store_text.specs.Reading.{ReadAs}
use Rattle.store_text.specs.Refusals.{text_of}
use Rattle.store_text.specs.declared.refusal.StoreRefusal.TheVariants as refusal
use Rattle.store_making.specs.declared.refusal.JournalRefusal.{JournalRefusal}
use Rattle.store_making.specs.declared.refusal.JournalRefusal.TheVariants as journal
use Rattle.store_commands.specs.Asking.{HasFault, IsAsked, IsOfOpening, IsRefusedBy, IsStep, IsUnopened, OpensAs, Patterns, ShowsAfter, of_opening, opened_state}
use Rattle.store_commands.specs.Replies.{IsEdit, IsEditReply}
use Rattle.store_commands.proofs.ReplyLaws.{answer_plain, gives_edit, gives_rose}
use Rattle.store_commands.proofs.StandingLaws.{after_reads}

-- the state that was opened is that of its image, which may be edited
pub state_so : (st : State) (size limit : ℕ) → st.allowed ≡ allow.Edit → st.size ≡ size → st.limit ≡ limit → st ≡ opened_state (image_of st) size limit
state_so st size limit allowed is_size is =
    ap (λ a. record { text = st.text; latest = st.latest; revision = st.revision; allowed = a; size = st.size; limit = st.limit }) allowed
    ∙ ap (λ (n : ℕ). opened_state (image_of st) n st.limit) is_size
    ∙ ap (λ (l : ℕ). opened_state (image_of st) size l) is

module _ {D : Type 0} (g : Disks D) (old : D × D) where
  -- ---- asked

  module _ (desk : Desk D g) (request : Request) (day : Day) (p : Patterns) (r : Reply) (back : D × D)
      (opens : OpensAs g old desk) (asked : IsAsked desk request day p r back) (is_edit : IsEdit request) where
    abbrev next : State → Option Image
    next st = next_of (answer_to st day.0 request)

    abbrev st : State
    st = state_of desk

    pub reply_kind : IsEditReply r
    reply_kind =
        gives_edit (answer_to st day.0 request) (deed_in st request) st (faults_of desk) r (state_of asked.now) (faults_of asked.now)
        (answer_plain st day.0 request is_edit) asked.served.serves.gives

    rose_zero : (a b : ℕ) → Rose a b → Rose 0 b
    rose_zero a b (inl less) = inl (omega (arith, less))
    rose_zero a b (inr last) = inr last

    pub reply_rose : is_fault r ≡ true → Rose 0 (fault_count g back)
    reply_rose fault =
        rose_zero (faults_of desk) (fault_count g back)
        (subst (λ (b : D × D). Rose (faults_of desk) (fault_count g b)) (sym asked.returned)
        (gives_rose (answer_to st day.0 request) (deed_in st request) st (faults_of desk) r (state_of asked.now) (faults_of asked.now)
        (answer_plain st day.0 request is_edit) asked.served.serves.gives fault))

    module _ (f s : List ℕ) (is_first : g.seen old.0 ≡ Some f) (is_second : g.seen old.1 ≡ Some s) where
      -- what the disks read as afterwards, and what a crash leaves
      pub reads_after : ReadAs g back (λ a b. ShowsAfter (next st) r (state_of asked.now) (Some (image a b)))
      reads_after =
          let shown = opens.shown f s is_first is_second in
          let stands = asked.served.serves.stands None shown.1 in
          subst (λ (d : D × D). ReadAs g d (λ a b. ShowsAfter (next st) r (state_of asked.now) (Some (image a b)))) (sym asked.returned)
          (after_reads g asked.now.store (state_of asked.now) r (next st) stands.0 stands.1 stands.2)

      -- the step, of files that had this size and limit
      pub is_step : (size limit : ℕ) → (state_of desk).size ≡ size → (state_of desk).limit ≡ limit → (found : Option (Result Image NoImage)) → ShowsAfter (next st) r (state_of asked.now) found
          → (IsLeft : List ℕ → List ℕ → Type 0) → ((a b : List ℕ) → IsLeft a b → ShowsAfter (next st) r (state_of asked.now) (Some (image a b)))
          → IsStep (opened_state (shown_by desk) size limit) request day.0 p r found IsLeft
      is_step size limit is_size same found shows IsLeft safe =
          let e : st ≡ opened_state (image_of st) size limit = state_so st size limit opens.allowed is_size same in
          record {
            faults = faults_of desk;
            faults_now = faults_of asked.now;
            state = state_of asked.now;
            loads = subst (λ (x : State). fault_of None x.text ≡ None) e opens.loads;
            step = subst (λ (x : State). Step x (faults_of desk) day.0 request r (state_of asked.now) (faults_of asked.now)) e asked.served.serves.gives;
            shows = subst (λ (x : State). ShowsAfter (next x) r (state_of asked.now) found) e shows;
            safe = λ a b left. subst (λ (x : State). ShowsAfter (next x) r (state_of asked.now) (Some (image a b))) e (safe a b left);
            complete = subst (λ (x : State). Completes (answer_to x day.0 request) (faults_of desk) (faults_of asked.now) p.before p.now r) e asked.complete;
          }

  -- ---- not opened

  -- the fault of a text in its files
  fault_in : (f s : List ℕ) (fault : OpenFault) → (shown : Image) × (image f s ≡ Ok shown) × (fault_of None shown.text ≡ Some fault) → HasFault (Some (image f s)) fault
  fault_in f s fault is = (is.0, ap (λ (x : Result Image NoImage). Some x) is.1, is.2)

  refused_opening : (f s : List ℕ) → g.seen old.0 ≡ Some f → g.seen old.1 ≡ Some s → (new : D × D) (fault : DeskFault) → OpeningRefused g old new fault
      → IsRefusedBy (Some (image f s)) (of_opening fault)
  refused_opening f s is_first is_second new (desk_fault.Store store_fault.DiskFault) cause = tt
  refused_opening f s is_first is_second new (desk_fault.Store (store_fault.NotAStore at)) cause = ap text_of (cause.0 f s is_first is_second)
  refused_opening f s is_first is_second new (desk_fault.Store (store_fault.Newer version)) cause = ap text_of (cause.0 f s is_first is_second)
  refused_opening f s is_first is_second new (desk_fault.Store (store_fault.Full size limit)) cause = absurd cause
  refused_opening f s is_first is_second new (desk_fault.Store (store_fault.Exists len)) cause = absurd cause
  refused_opening f s is_first is_second new (desk_fault.Store store_fault.Memory) cause = absurd cause
  refused_opening f s is_first is_second new (desk_fault.Load unopened_text.Memory) cause = absurd cause
  refused_opening f s is_first is_second new (desk_fault.Load (unopened_text.Load fault)) cause = fault_in f s (unopened_text.Load fault) (cause f s is_first is_second)
  refused_opening f s is_first is_second new (desk_fault.Load (unopened_text.TooLarge limit size)) cause =
      fault_in f s (unopened_text.TooLarge limit size) (cause f s is_first is_second)
  refused_opening f s is_first is_second new desk_fault.Memory cause = tt

  kind_opening : (new : D × D) (fault : DeskFault) → OpeningRefused g old new fault → IsOfOpening (of_opening fault) × (of_opening fault ≢ journal.Store refusal.ReadFault)
  kind_opening new (desk_fault.Store store_fault.DiskFault) cause = (tt, λ e. cc)
  kind_opening new (desk_fault.Store (store_fault.NotAStore at)) cause = (tt, λ e. cc)
  kind_opening new (desk_fault.Store (store_fault.Newer version)) cause = (tt, λ e. cc)
  kind_opening new (desk_fault.Store (store_fault.Full size limit)) cause = absurd cause
  kind_opening new (desk_fault.Store (store_fault.Exists len)) cause = absurd cause
  kind_opening new (desk_fault.Store store_fault.Memory) cause = absurd cause
  kind_opening new (desk_fault.Load unopened_text.Memory) cause = absurd cause
  kind_opening new (desk_fault.Load (unopened_text.Load fault)) cause = (tt, λ e. cc)
  kind_opening new (desk_fault.Load (unopened_text.TooLarge limit size)) cause = (tt, λ e. cc)
  kind_opening new desk_fault.Memory cause = (tt, λ e. cc)

  rose_opening : (new : D × D) (fault : DeskFault) → OpeningRefused g old new fault → of_opening fault ≡ journal.Store refusal.DiskFault
      → Rose (fault_count g old) (fault_count g new)
  rose_opening new (desk_fault.Store store_fault.DiskFault) cause e = cause
  rose_opening new (desk_fault.Store (store_fault.NotAStore at)) cause e = absurd cc
  rose_opening new (desk_fault.Store (store_fault.Newer version)) cause e = absurd cc
  rose_opening new (desk_fault.Store (store_fault.Full size limit)) cause e = absurd cause
  rose_opening new (desk_fault.Store (store_fault.Exists len)) cause e = absurd cause
  rose_opening new (desk_fault.Store store_fault.Memory) cause e = absurd cause
  rose_opening new (desk_fault.Load unopened_text.Memory) cause e = absurd cause
  rose_opening new (desk_fault.Load (unopened_text.Load fault)) cause e = absurd cc
  rose_opening new (desk_fault.Load (unopened_text.TooLarge limit size)) cause e = absurd cc
  rose_opening new desk_fault.Memory cause e = absurd cc

  module _ (new : D × D) (e : JournalRefusal) (unopened : IsUnopened g old new e) where
    pub refused_by : (f s : List ℕ) → g.seen old.0 ≡ Some f → g.seen old.1 ≡ Some s → IsRefusedBy (Some (image f s)) e
    refused_by f s is_first is_second =
        subst (λ (x : JournalRefusal). IsRefusedBy (Some (image f s)) x) (sym unopened.is) (refused_opening f s is_first is_second new unopened.fault unopened.cause)

    pub kind_is : IsOfOpening e
    kind_is = subst (λ (x : JournalRefusal). IsOfOpening x) (sym unopened.is) (kind_opening new unopened.fault unopened.cause).0

    pub no_read : e ≢ journal.Store refusal.ReadFault
    no_read is = (kind_opening new unopened.fault unopened.cause).1 (sym unopened.is ∙ is)

    pub rose_is : e ≡ journal.Store refusal.DiskFault → Rose (fault_count g old) (fault_count g new)
    rose_is is = rose_opening new unopened.fault unopened.cause (sym unopened.is ∙ is)
