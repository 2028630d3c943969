-- What the maker of patterns tells after more and more entries.
use Rattle.std.proofs.Common.{◌≡◌, ℕ, List, [], ◌∷◌, ◌++◌, Option, IfSome, refl, subst}
use Rattle.query_terms.specs.Making.{Stays}
use Rattle.desk.specs.Entries.{Entry}
use Rattle.desk.specs.Steps.{TellsReply}
use Rattle.web_desk.specs.Makers.{AreAsked, TellsEntries}
use Rattle.web_desk.specs.Served.{AreOf}
use Rattle.web_desk.proofs.AnswerLemmas.{none_of, one_of}
use Rattle.web_desk.proofs.ServeLemmas.{days_more}

-- none was asked
pub none_asked : (always : Option ℕ) (count : ℕ) (last : Option (List ℕ)) → AreAsked always count count last last []
none_asked always count last = (none_of always, record { count = refl; told = refl })

pub none_told : (always : Option ℕ) (before now : ℕ) (last_before last_now : Option (List ℕ)) → Stays before now last_before last_now
    → AreAsked always before now last_before last_now []
none_told always before now last_before last_now stays = (none_of always, stays)

-- one was
pub one_asked : (always : Option ℕ) (before now : ℕ) (last_before last_now : Option (List ℕ)) (entry : Entry) (today : ℕ)
    → entry.day ≡ record { 0 = today } → IfSome always (λ d. today ≡ d)
    → TellsReply entry.request entry.day.0 before now last_before last_now entry.reply → AreAsked always before now last_before last_now (entry ∷ [])
one_asked always before now last_before last_now entry today day is tells =
    (one_of always entry today day is, (now, last_now, tells, record { count = refl; told = refl }))

-- what stays first
first_stays : (before mid now : ℕ) (last_before last_mid last_now : Option (List ℕ)) (entries : List Entry) → Stays before mid last_before last_mid
    → TellsEntries mid now last_mid last_now entries → TellsEntries before now last_before last_now entries
first_stays before mid now last_before last_mid last_now entries stays tells =
    let P : ℕ → Type 0 = λ n. TellsEntries n now last_mid last_now entries in
    let Q : Option (List ℕ) → Type 0 = λ l. TellsEntries before now l last_now entries in
    subst Q stays.told (subst P stays.count tells)

-- some entries, and more of them
entries_more : (before mid now : ℕ) (last_before last_mid last_now : Option (List ℕ)) (entries later : List Entry)
    → TellsEntries before mid last_before last_mid entries → TellsEntries mid now last_mid last_now later
    → TellsEntries before now last_before last_now (entries ++ later)
entries_more before mid now last_before last_mid last_now [] later p q = first_stays before mid now last_before last_mid last_now later p q
entries_more before mid now last_before last_mid last_now (entry ∷ entries) later p q =
    (p.0, p.1, p.2, entries_more p.0 mid now p.1 last_mid last_now entries later p.3 q)

pub asked_more : (always always_now : Option ℕ) (before mid now : ℕ) (last_before last_mid last_now : Option (List ℕ)) (entries later : List Entry)
    → always_now ≡ always → AreAsked always before mid last_before last_mid entries → AreAsked always_now mid now last_mid last_now later
    → AreAsked always before now last_before last_now (entries ++ later)
asked_more always always_now before mid now last_before last_mid last_now entries later same p q =
    let D : Option ℕ → Type 0 = λ day. IfSome day (λ d. AreOf d later) in
    (days_more always entries later p.0 (subst D same q.0), entries_more before mid now last_before last_mid last_now entries later p.1 q.1)
