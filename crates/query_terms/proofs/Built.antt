-- Regexes that are built one by one.
use Rattle.std.proofs.Common.{◌≡◌, ℕ, List, [], ◌∷◌, ◌++◌, map, Option, Result, Ok, Err, OnOk, refl, sym, ap, ◌∙◌, subst, inl}
use Rattle.std.proofs.lemmas.List.{append-nil}
use Rattle.std.proofs.lemmas.List.Elements.{All-push}
use Rattle.regex.specs.Strings.{regex_source}
use Rattle.regex.specs.declared.string.regex.Regex.{Regex}
use Rattle.query_terms.specs.Building.{IsCaseless, AreBuilt, Grows, IsRefusalOf}
use Rattle.query_terms.specs.Making.{IsMadeOf, IsRefusal}
use Rattle.query_terms.specs.declared.faults.MakeFault.{MakeFault}

-- a regex of a source behind others
built_one : (sources : List (List ℕ)) (old : List Regex) (source : List ℕ) (regex : Regex) → IsMadeOf source regex → AreBuilt sources old → AreBuilt (sources ++ source ∷ []) (old ++ regex ∷ [])
built_one sources old source regex made built = record {
  named = map_push old regex ∙ (ap (λ l. l ++ regex_source regex ∷ []) built.named ∙ ap (λ s. sources ++ s ∷ []) made.source);
  caseless = All-push IsCaseless old regex built.caseless (record { config = made.config; read = made.read });
}
  where
    map_push : (rs : List Regex) (r : Regex) → map regex_source (rs ++ r ∷ []) ≡ map regex_source rs ++ regex_source r ∷ []
    map_push [] r = refl
    map_push (x ∷ rs) r = ap (λ l. regex_source x ∷ l) (map_push rs r)

pub built_none : (sources : List (List ℕ)) (old : List Regex) → AreBuilt sources old → AreBuilt (sources ++ []) old
built_none sources old built = subst (λ s. AreBuilt s old) (sym (append-nil sources)) built

pub refused_one : (source : List ℕ) (before now : ℕ) (last : Option (List ℕ)) → IsRefusal before now last source → IsRefusalOf (source ∷ []) before now last
refused_one source before now last r = record { later = r.later; rose = r.rose; source = source; among = inl refl; told = r.told }

grows_one : (source : List ℕ) (old new : List Regex) (regex : Regex) → IsMadeOf source regex → new ≡ old ++ regex ∷ [] → Grows (source ∷ []) old new
grows_one source old new regex made e = λ sources built. subst (λ rs. AreBuilt (sources ++ source ∷ []) rs) (sym e) (built_one sources old source regex made built)

pub grows_pushed : {T : Type 0} (r : Result T MakeFault) (source : List ℕ) (old new : List Regex) (regex : Regex) → IsMadeOf source regex → OnOk r (new ≡ old ++ regex ∷ []) → OnOk r (Grows (source ∷ []) old new)
grows_pushed (Ok x) source old new regex made e = grows_one source old new regex made e
grows_pushed (Err f) source old new regex made e = e
