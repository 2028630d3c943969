-- A router whose routes have no parameters finds the route that is the path.
use Rattle.std.proofs.Common.{◌≡◌, ◌∙◌, ℕ, ◌<◌, List, [], ◌∷◌, length, Option, Some, None, Bool, true, false, cond, ◌&&◌, nat_eq, refl, sym, ap, subst, zero, suc, ◌-◌, ◌==◌, arith, rules, codes, lit<}
use Rattle.std.proofs.lemmas.Bool.Decides.{nat_tests}
use Rattle.std.proofs.lemmas.Slice.Eq.{bytes_eq-Decides}
use Rattle.std.proofs.lemmas.Str.{IsUtf8-from_ascii}
use Rattle.std.specs.Str.{IsUtf8, IsAscii, bytes_eq}
use Rattle.matchit.specs.Level.{IsText}
use Rattle.matchit.specs.Order.{lookup}
use Rattle.matchit.specs.Rows.{RowsOf, param_token, catch_all_token}
use Rattle.matchit.specs.Seek.{own, step, or_else, seek, first, param_step, has_slash, same_text}
use Rattle.matchit.specs.Router.{RouteOf}
use Rattle.web_messages.specs.Paths.{resource_at, found_at, FindsEach, literal_route}
use Rattle.web_messages.specs.declared.resource.Resource.{Resource}
use Rattle.web_messages.specs.declared.resource.Resource.TheVariants.{Report, Download, Add, Edit, Upload, Import, Page, Check, Preview}
use Rattle.report_options.specs.declared.command.Command.TheVariants.{Balance, Print, Register, IncomeStatement, BalanceSheet, Accounts}

-- each route is made of bytes alone
abbrev pub AreLiteral : {K : Type 0} → RowsOf K → Type 0
AreLiteral [] = Unit {0}
AreLiteral ((t, key) ∷ rest) = IsText t × AreLiteral rest

-- no routes go on after a parameter where there are none
no_param : {K : Type 0} (p : List ℕ) → (param_step {K = K} [] p).1 ≡ []
unfolding param_step
no_param {K = K} p =
    elim (has_slash p) as (λ v. (cond {A = ℕ × RowsOf K} v (0, []) (length p, [])).1 ≡ []) [
      | true ↦ refl
      | false ↦ refl
    ]

-- no routes lead nowhere
seek_none : {K : Type 0} (k : ℕ) (p : List ℕ) → seek {K = K} k [] p ≡ None
unfolding seek
seek_none k [] = refl
seek_none (suc k) (b ∷ p) = seek_none k p
seek_none {K = K} zero (b ∷ p) = simp (seek_none {K = K} 0 p, no_param {K = K} (b ∷ p), seek_none {K = K} (((param_step {K = K} [] (b ∷ p)).0) - 1) p)

-- a token that is no byte begins none of them
step_none : {K : Type 0} (b : ℕ) (rs : RowsOf K) → AreLiteral rs → 255 < b → step b rs ≡ []
step_none b [] h n = refl
step_none b (([], key) ∷ rest) h n = step_none b rest h.1 n
step_none b ((x ∷ t, key) ∷ rest) h n =
    let e : (x == b) ≡ false = grind (arith, nat_tests, h.0.0) in
    rw e (step_none b rest h.1 n)

-- what is left of such routes is of bytes too
step_literal : {K : Type 0} (b : ℕ) (rs : RowsOf K) → AreLiteral rs → AreLiteral (step b rs)
step_literal b [] h = tt
step_literal b (([], key) ∷ rest) h = step_literal b rest h.1
step_literal {K = K} b ((x ∷ t, key) ∷ rest) h =
    elim (x == b) as (λ v. AreLiteral {K = K} (cond v ((t, key) ∷ step b rest) (step b rest))) [
      | true ↦ (h.0.1, step_literal b rest h.1)
      | false ↦ step_literal b rest h.1
    ]

-- where the path ends, the route that ends there is the one that is the path
own_lookup : {K : Type 0} (rs : RowsOf K) → own rs ≡ lookup [] rs
own_lookup [] = refl
own_lookup (([], key) ∷ rest) = refl
own_lookup ((x ∷ t, key) ∷ rest) = own_lookup rest

-- past a byte of the path, the same route is looked for among those that go on with it
step_lookup : {K : Type 0} (b : ℕ) (p : List ℕ) (rs : RowsOf K) → lookup p (step b rs) ≡ lookup (b ∷ p) rs
step_lookup b p [] = refl
step_lookup b p (([], key) ∷ rest) = step_lookup b p rest
step_lookup {K = K} b p ((x ∷ t, key) ∷ rest) = by (x == b) (step_lookup b p rest)
  where
    by : (v : Bool) → lookup p (step b rest) ≡ lookup (b ∷ p) rest
        → lookup {K = K} p (cond v ((t, key) ∷ step b rest) (step b rest)) ≡ cond (v && same_text t p) (Some key) (lookup (b ∷ p) rest)
    by true ih = ap (λ z. cond (same_text t p) (Some key) z) ih
    by false ih = ih

-- nothing found after it changes an answer
no_more : {K : Type 0} (found : Option K) → or_else found None ≡ found
no_more None = refl
no_more (Some key) = refl

-- The route that is the path is found, and no other.
pub first_literal : {K : Type 0} (rs : RowsOf K) (path : List ℕ) → AreLiteral rs → first rs path ≡ lookup path rs
unfolding seek
first_literal rs [] h = own_lookup rs
first_literal {K = K} rs (b ∷ p) h =
    let here : seek 0 rs (b ∷ p) ≡ seek 0 (step b rs) p =
    simp (step_none param_token rs h (lit< tt), step_none catch_all_token rs h (lit< tt), no_param {K = K} (b ∷ p), seek_none {K = K} ((param_step {K = K} [] (b ∷ p)).0 - 1) p, no_more) in
    here ∙ (first_literal (step b rs) p (step_literal b rs h) ∙ step_lookup b p rs)

-- two tests of two texts, each the other way round, agree
same_flip : (a b : List ℕ) → same_text a b ≡ bytes_eq b a
same_flip [] [] = refl
same_flip [] (y ∷ b) = refl
same_flip (x ∷ a) [] = refl
same_flip (x ∷ a) (y ∷ b) =
    let e : nat_eq x y ≡ nat_eq y x = grind (arith, nat_tests) in
    rw (e, same_flip a b) refl

-- the routes of a connection, in the order of the router
abbrev pub all_routes : RowsOf (RouteOf Resource)
all_routes =
    (codes "/accounts", literal_route (codes "/accounts") (Report Accounts))
    ∷ (codes "/add", literal_route (codes "/add") Add)
    ∷ (codes "/balancesheet", literal_route (codes "/balancesheet") (Report BalanceSheet))
    ∷ (codes "/balance", literal_route (codes "/balance") (Report Balance))
    ∷ (codes "/check", literal_route (codes "/check") Check)
    ∷ (codes "/download", literal_route (codes "/download") Download)
    ∷ (codes "/edit", literal_route (codes "/edit") Edit)
    ∷ (codes "/import", literal_route (codes "/import") Import)
    ∷ (codes "/incomestatement", literal_route (codes "/incomestatement") (Report IncomeStatement))
    ∷ (codes "/journal", literal_route (codes "/journal") (Report Print))
    ∷ (codes "/preview", literal_route (codes "/preview") Preview)
    ∷ (codes "/register", literal_route (codes "/register") (Report Register))
    ∷ (codes "/upload", literal_route (codes "/upload") Upload)
    ∷ (codes "/", literal_route (codes "/") Page)
    ∷ []

-- this path finds among the routes what it names
abbrev FindsAt : List ℕ → Type 0
FindsAt path = found_at (lookup path all_routes) ≡ resource_at path

-- where a path is this text it finds what it names, else by what else holds
by_text : (path text : List ℕ) → FindsAt text → (bytes_eq path text ≡ false → FindsAt path) → FindsAt path
by_text path text here other = by (bytes_eq path text) refl
  where
    by : (v : Bool) → bytes_eq path text ≡ v → FindsAt path
    by true e = subst FindsAt (sym ((bytes_eq-Decides path text).0 e)) here
    by false e = other e

lookup_finds : (path : List ℕ) → FindsAt path
lookup_finds path =
    by_text path (codes "/balance") refl (λ no_balance.
    by_text path (codes "/journal") refl (λ no_journal.
    by_text path (codes "/register") refl (λ no_register.
    by_text path (codes "/incomestatement") refl (λ no_incomestatement.
    by_text path (codes "/balancesheet") refl (λ no_balancesheet.
    by_text path (codes "/accounts") refl (λ no_accounts.
    by_text path (codes "/download") refl (λ no_download.
    by_text path (codes "/add") refl (λ no_add.
    by_text path (codes "/edit") refl (λ no_edit.
    by_text path (codes "/upload") refl (λ no_upload.
    by_text path (codes "/import") refl (λ no_import.
    by_text path (codes "/") refl (λ no_home.
    by_text path (codes "/check") refl (λ no_check.
    by_text path (codes "/preview") refl (λ no_preview.
    rw (
      same_flip (codes "/accounts") path,
      same_flip (codes "/add") path,
      same_flip (codes "/balancesheet") path,
      same_flip (codes "/balance") path,
      same_flip (codes "/check") path,
      same_flip (codes "/download") path,
      same_flip (codes "/edit") path,
      same_flip (codes "/import") path,
      same_flip (codes "/incomestatement") path,
      same_flip (codes "/journal") path,
      same_flip (codes "/preview") path,
      same_flip (codes "/register") path,
      same_flip (codes "/upload") path,
      same_flip (codes "/") path,
      no_balance,
      no_journal,
      no_register,
      no_incomestatement,
      no_balancesheet,
      no_accounts,
      no_download,
      no_add,
      no_edit,
      no_upload,
      no_import,
      no_home,
      no_check,
      no_preview,
    ) refl))))))))))))))

-- none of them has a parameter
all_literal : AreLiteral all_routes
all_literal = search rules

-- Each path finds among the routes what it names.
pub each_found : FindsEach all_routes
each_found path = ap found_at (first_literal all_routes path all_literal) ∙ lookup_finds path

-- each byte is ASCII
abbrev AreAscii : List ℕ → Type 0
AreAscii [] = Unit {0}
AreAscii (b ∷ rest) = (b < 128) × AreAscii rest

-- such a text is ASCII at each place
ascii_at : (text : List ℕ) → AreAscii text → IsAscii text
ascii_at [] h i = lit< tt
ascii_at (b ∷ rest) h zero = h.0
ascii_at (b ∷ rest) h (suc i) = ascii_at rest h.1 i

-- Bytes that are no text lead nowhere.
pub no_text : (path : List ℕ) → (IsUtf8 path → ⊥) → None ≡ resource_at path
no_text path h =
    rw (
      differs (codes "/balance") (search rules),
      differs (codes "/journal") (search rules),
      differs (codes "/register") (search rules),
      differs (codes "/incomestatement") (search rules),
      differs (codes "/balancesheet") (search rules),
      differs (codes "/accounts") (search rules),
      differs (codes "/download") (search rules),
      differs (codes "/add") (search rules),
      differs (codes "/edit") (search rules),
      differs (codes "/upload") (search rules),
      differs (codes "/import") (search rules),
      differs (codes "/") (search rules),
      differs (codes "/check") (search rules),
      differs (codes "/preview") (search rules),
    ) refl
  where
    differs : (text : List ℕ) → AreAscii text → bytes_eq path text ≡ false
    differs text ascii = by (bytes_eq path text) refl
      where
        by : (v : Bool) → bytes_eq path text ≡ v → bytes_eq path text ≡ false
        by true e = absurd (h (subst IsUtf8 (sym ((bytes_eq-Decides path text).0 e)) (IsUtf8-from_ascii text (ascii_at text ascii))))
        by false e = e
