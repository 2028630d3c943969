-- A line, byte by byte.
use Rattle.std.proofs.Common.{◌≡◌, ℕ, ◌+◌, ◌-◌, List, [], ◌∷◌, sym, ap, ◌∙◌, arith}
use Rattle.csv.specs.Machine.{step}
use Rattle.csv.specs.declared.parser.Config.{Config}
use Rattle.csv.specs.declared.parser.State.{State}
use Rattle.bank_explanations.specs.Begun.{after, begun, one_if, opens}

pub spot_more : (cfg : Config) (whole s now : State) (rest more : List ℕ) (first : ℕ) → whole ≡ after cfg s rest → rest ≡ first ∷ more → now ≡ (step cfg s first).0 → whole ≡ after cfg now more
spot_more cfg whole s now rest more first w cut e = w ∙ (ap (after cfg s) cut ∙ ap (λ (x : State). after cfg x more) (sym e))

less_by : (left a b next : ℕ) → next ≡ left - a → left - (a + b) ≡ next - b
less_by left a b next e = omega (arith, e)

pub left_more : (cfg : Config) (whole left next : ℕ) (s now : State) (rest more : List ℕ) (first : ℕ) → whole ≡ left - begun cfg s rest → rest ≡ first ∷ more → now ≡ (step cfg s first).0
    → next ≡ left - one_if (opens s now) → whole ≡ next - begun cfg now more
left_more cfg whole left next s now rest more first w cut e less =
    w ∙ (ap (λ (x : List ℕ). left - begun cfg s x) cut
    ∙ (ap (λ (x : State). left - (one_if (opens s x) + begun cfg x more)) (sym e) ∙ less_by left (one_if (opens s now)) (begun cfg now more) next less))

pub spot_done : (cfg : Config) (whole s : State) (rest : List ℕ) → whole ≡ after cfg s rest → rest ≡ [] → s ≡ whole
spot_done cfg whole s rest w none = sym (w ∙ ap (after cfg s) none)

none_less : (n : ℕ) → n - 0 ≡ n
none_less n = omega arith

pub left_done : (cfg : Config) (whole left : ℕ) (s : State) (rest : List ℕ) → whole ≡ left - begun cfg s rest → rest ≡ [] → left ≡ whole
left_done cfg whole left s rest w none = sym (w ∙ (ap (λ (x : List ℕ). left - begun cfg s x) none ∙ none_less left))
