-- What a door tells of the connections that come to it, and what its calls answer.
use Rattle.std.specs.Prelude.{◌≡◌, ◌≢◌, ℕ, List, [], ◌∷◌, ◌++◌, Option, None, Some, IfSome, is_none, if◌then◌else◌, Result, Ok, Err}
use Rattle.std.specs.Option.{option_map}
use Rattle.hl_base.specs.declared.door.Knock.{Knock}
use Rattle.hl_base.specs.declared.door.Knock.TheVariants as knock

-- what is told of a connection that came back: the bytes that weren't read, those that were sent over it, and how
-- many of its reads and writes failed
pub record Returned : Type 0 where
  pub left : Option (List ℕ)
  pub sent : Option (List ℕ)
  pub read_faults : ℕ
  pub write_faults : ℕ

-- a connection that was handed out: the bytes that it had, and what is told of it once it came back
pub record Visit : Type 0 where
  pub had : Option (List ℕ)
  pub back : Option Returned

-- Of the connections that are out, the one that was handed out first came back; where none is out, all stays.
abbrev pub come_back : Returned → List Visit → List Visit
come_back link [] = []
come_back link (visit ∷ visits) =
    if is_none visit.back then record visit { back = Some link } ∷ visits else visit ∷ come_back link visits

module _ {K : Type 0} where
  -- an answer as a result
  abbrev pub answered : Knock K → Result (Option K) (Unit {0})
  answered (knock.Link link) = Ok (Some link)
  answered knock.End = Ok None
  answered knock.Failed = Err tt

  -- a fact of the connection, where one came
  abbrev pub IfCame : Knock K → (K → Type 0) → Type 0
  IfCame (knock.Link link) P = P link
  IfCame knock.End P = Unit {0}
  IfCame knock.Failed P = Unit {0}

  -- The first of the connections that are still to come has come; it is the end exactly where there is none.
  abbrev pub Comes : Option (List K) → Option (List K) → Knock K → Type 0
  Comes old new (knock.Link link) = old ≡ option_map (λ links. link ∷ links) new
  Comes old new knock.End = (new ≡ old) × IfSome old (λ links. links ≡ [])
  Comes old new knock.Failed = (new ≡ old) × IfSome old (λ links. links ≢ [])

  -- the connections that were handed out, the one that came among them
  abbrev pub with_visit : (K → Option (List ℕ)) → Option (List Visit) → Knock K → Option (List Visit)
  with_visit bytes given (knock.Link link) = option_map (λ visits. visits ++ record { had = bytes link; back = None } ∷ []) given
  with_visit bytes given knock.End = given
  with_visit bytes given knock.Failed = given
