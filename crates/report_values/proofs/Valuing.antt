-- Takings that are valued one after another.
use Rattle.std.proofs.Common.{◌≡◌, ℕ, ◌+◌, ◌<◌, List, [], ◌∷◌, ◌++◌, length, map, take, get_or, Option, None, refl, sym, ap, subst, ◌∙◌}
use Rattle.std.specs.List.{fold}
use Rattle.report_cells.specs.Taken.{Shared, Taken}
use Rattle.report_values.specs.Known.{IsRight}
use Rattle.report_values.specs.Refusals.{lesser, lost, first_lost, values_of}
use Rattle.report_values.specs.Worth.{Priced, valued}
use Rattle.report_values.specs.declared.known.Known.{Known}
use Rattle.report_values.proofs.Lists.{map-push, fold-push}

-- the values of some takings, and the least symbol of those that have none
pub record Valuing (market : Priced) (when : ℕ → ℕ) (known : Known) (values : List Taken) (least : Option (List ℕ)) (ts : List Taken) : Type 0 where
  pub right : IsRight market known
  pub made : values ≡ values_of market when ts
  pub first : least ≡ first_lost market when ts

lost-push : (market : Priced) (when : ℕ → ℕ) (ts : List Taken) (t : Taken) → first_lost market when (ts ++ t ∷ []) ≡ lesser (first_lost market when ts) (lost t.amount (valued market when t).amount)
lost-push market when ts t =
    ap (fold lesser None) (map-push (λ (t : Taken). lost t.amount (valued market when t).amount) ts t)
    ∙ fold-push lesser None (map (λ (t : Taken). lost t.amount (valued market when t).amount) ts) (lost t.amount (valued market when t).amount)

pub valuing_more : (market : Priced) (when : ℕ → ℕ) (known new : Known) (values : List Taken) (least after : Option (List ℕ)) (ts all : List Taken) (t value : Taken)
    → Valuing market when known values least ts → IsRight market new → all ≡ ts ++ t ∷ [] → value ≡ valued market when t → after ≡ lesser least (lost t.amount value.amount)
    → Valuing market when new (values ++ value ∷ []) after all
valuing_more market when known new values least after ts all t value h right more is lesser_is =
    subst (Valuing market when new (values ++ value ∷ []) after) (sym more) (record {
      right = right;
      made = ap (λ (vs : List Taken). vs ++ value ∷ []) h.made ∙ ap (λ (v : Taken). values_of market when ts ++ v ∷ []) is ∙ sym (map-push (valued market when) ts t);
      first = lesser_is
          ∙ ap (λ (o : Option (List ℕ)). lesser o (lost t.amount value.amount)) h.first
          ∙ ap (λ (v : Taken). lesser (first_lost market when ts) (lost t.amount v.amount)) is
          ∙ sym (lost-push market when ts t);
    })

pub valuing_none : (market : Priced) (when : ℕ → ℕ) (known : Known) → IsRight market known → Valuing market when known [] None []
valuing_none market when known right = record { right = right; made = refl; first = refl }
