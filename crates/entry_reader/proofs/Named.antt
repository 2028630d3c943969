-- The names of accounts in a context.
use Rattle.std.proofs.Common.{◌≡◌, ℕ, ◌+◌, ◌<◌, Bool, true, false, cond, ◌&&◌, List, [], ◌∷◌, ◌++◌, length, take, drop, Option, Some, None, Result, Ok, Err, reverse, nat_eq, refl, sym, ap, subst, append_assoc, ◌∙◌}
use Rattle.book.specs.declared.fault.Fault.{Fault}
use Rattle.book.specs.declared.fault.Cause.TheVariants as cause
use Rattle.entry_reader.specs.Accounts.{has_parts, name_in}
use Rattle.entry_reader.specs.Causes.{fault_at}
use Rattle.std.proofs.lemmas.List.{reverse-append, nil_from_length}
use Rattle.std.proofs.lemmas.Str.Pattern.{starts_text}
use Rattle.std.specs.List.{find, starts_with}
use Rattle.std.specs.Str.{bytes_eq, IsCharBoundary}
use Rattle.std.specs.Str.Pattern.{LacksTextAt, FindsTextPrefix, StripsPrefix}
use Rattle.entry_reader.specs.Contexts.{Context, account_named, ends_part, is_under, latest_mark, mark_found, renamed, renamed_by, with_applied}

-- where names stay as they are written, an account with its parts is what is written
pub unchanged_name : (context : Context) (line : ℕ) (name : List ℕ) → has_parts name ≡ true → ((n : List ℕ) → account_named context n ≡ n) → name_in context line name ≡ Ok name
unchanged_name context line name h same =
    ap (λ (n : List ℕ). cond {A = Result (List ℕ) Fault} (has_parts name && has_parts n) (Ok n) (Err (fault_at line cause.Account))) (same name)
    ∙ ap (λ (t : Bool). cond {A = Result (List ℕ) Fault} (t && t) (Ok name) (Err (fault_at line cause.Account))) h

-- one alias more, which is tried first
pub renamed-last : (aliases : List (List ℕ × List ℕ)) (alias : List ℕ × List ℕ) (name : List ℕ) → renamed (aliases ++ alias ∷ []) name ≡ renamed aliases (renamed_by alias name)
renamed-last [] alias name = refl
renamed-last (a ∷ more) alias name = ap (renamed_by a) (renamed-last more alias name)

-- a name that doesn't begin with an old one isn't under it
pub not_under : (old name : List ℕ) → LacksTextAt old name 0 → is_under old name ≡ false
not_under old name lacks = ap (λ (t : Bool). t && ends_part (drop (length old) name)) (sym (starts_text false old name lacks))

-- whether a name is under an old one, where it begins with it
pub under_by : (old name rest : List ℕ) (t : Bool) → StripsPrefix (FindsTextPrefix old) name rest → ends_part rest ≡ t → (is_under old name ≡ t) × (rest ≡ drop (length old) name)
under_by old name rest t (n, (len, front, bound), is, room) e =
    let at : rest ≡ drop (length old) name = is ∙ ap (λ (k : ℕ). drop k name) len in
    let starts : true ≡ starts_with nat_eq name old = starts_text true old name (n, (len, front, bound), subst (λ k. IsCharBoundary name k) (sym len) bound) in
    (ap (λ (u : Bool). u && ends_part (drop (length old) name)) (sym starts) ∙ sym (ap ends_part at) ∙ e, at)

-- one name more before others, and all of them
pub applied_step : (front outer : List ℕ) (names : List (List ℕ)) (name : List ℕ) → front ++ with_applied (outer ∷ names) name ≡ ((front ++ outer) ++ 58 ∷ []) ++ with_applied names name
applied_step front outer names name =
    sym (append_assoc front outer (58 ∷ with_applied names name)) ∙ sym (append_assoc (front ++ outer) (58 ∷ []) (with_applied names name))

-- the latest directive of a symbol, by the last of all
pub latest_here : (all older : List (List ℕ × Option ℕ)) (entry : List ℕ × Option ℕ) (symbol : List ℕ) → all ≡ older ++ entry ∷ [] → bytes_eq entry.0 symbol ≡ true → latest_mark all symbol ≡ entry.1
latest_here all older entry symbol is t =
    ap (λ (marks : List (List ℕ × Option ℕ)). latest_mark marks symbol) is
    ∙ ap (λ (marks : List (List ℕ × Option ℕ)). mark_found (find (λ e. bytes_eq e.0 symbol) marks)) (reverse-append older (entry ∷ []))
    ∙ ap (λ (u : Bool). mark_found (cond u (Some entry) (find (λ e. bytes_eq e.0 symbol) (reverse older)))) t

pub latest_before : (all older : List (List ℕ × Option ℕ)) (entry : List ℕ × Option ℕ) (symbol : List ℕ) → all ≡ older ++ entry ∷ [] → bytes_eq entry.0 symbol ≡ false → latest_mark all symbol ≡ latest_mark older symbol
latest_before all older entry symbol is t =
    ap (λ (marks : List (List ℕ × Option ℕ)). latest_mark marks symbol) is
    ∙ ap (λ (marks : List (List ℕ × Option ℕ)). mark_found (find (λ e. bytes_eq e.0 symbol) marks)) (reverse-append older (entry ∷ []))
    ∙ ap (λ (u : Bool). mark_found (cond u (Some entry) (find (λ e. bytes_eq e.0 symbol) (reverse older)))) t

pub latest_nowhere : (all : List (List ℕ × Option ℕ)) (symbol : List ℕ) → length all ≡ 0 → latest_mark all symbol ≡ None
latest_nowhere all symbol e = rw (nil_from_length all e) refl

-- one alias more, at the end of all
pub renamed_step : (all older : List (List ℕ × List ℕ)) (newest : List ℕ × List ℕ) (name total : List ℕ) → all ≡ older ++ newest ∷ [] → renamed all name ≡ total → renamed older (renamed_by newest name) ≡ total
renamed_step all older newest name total is so_far =
    sym (renamed-last older newest name) ∙ sym (ap (λ (aliases : List (List ℕ × List ℕ)). renamed aliases name) is) ∙ so_far

pub renamed_none : (all : List (List ℕ × List ℕ)) (name total : List ℕ) → length all ≡ 0 → renamed all name ≡ total → name ≡ total
renamed_none all name total e so_far = sym (ap (λ (aliases : List (List ℕ × List ℕ)). renamed aliases name) (nil_from_length all e)) ∙ so_far
