-- Whether a request is cross-origin: sent by a page of another site. Browsers say so in the fields Origin and Sec-Fetch-Site;
-- other programs send neither. A field is seen as its name and its value.
use Rattle.std.specs.Prelude.{ℕ, ◌||◌, Bool, true, false, not, List, [], ◌∷◌, ◌==◌, codes}
use Rattle.std.specs.List.{after_first, list_any}
use Rattle.std.specs.Str.{str_eq_ignore_ascii_case}
use Rattle.hl_base.specs.Ascii.{colon, slash}
use Rattle.web_messages.specs.Fields.{is_word, values_of}

abbrev pub host : List ℕ
host = codes "host"

abbrev pub origin : List ℕ
origin = codes "origin"

abbrev pub sec_fetch_site : List ℕ
sec_fetch_site = codes "sec-fetch-site"

abbrev pub cross_site : List ℕ
cross_site = codes "cross-site"

-- what follows the scheme and the colon of an origin
abbrev pub after_scheme : List ℕ → List ℕ
after_scheme value = after_first (λ b. b == colon) value

-- an origin has this host and port: they follow its scheme, as in http://localhost:5000, in any case of their ASCII letters
abbrev pub has_host : List ℕ → List ℕ → Bool
has_host site value = str_eq_ignore_ascii_case (after_scheme value) (slash ∷ slash ∷ site)

-- an origin has the host and port of the one field Host
abbrev pub has_host_of : List (List ℕ) → List ℕ → Bool
has_host_of [] value = false
has_host_of (site ∷ []) value = has_host site value
has_host_of (site ∷ next ∷ sites) value = false

-- no origin is given, or one, which has the host and port of the one field Host
abbrev pub is_same_origin : List (List ℕ) → List (List ℕ) → Bool
is_same_origin hosts [] = true
is_same_origin hosts (value ∷ []) = has_host_of hosts value
is_same_origin hosts (value ∷ next ∷ values) = false

-- A request is cross-origin where a field Sec-Fetch-Site says cross-site, or where there are fields Origin and they aren't one
-- origin with the host and port of the one field Host.
abbrev pub is_cross_origin : List (List ℕ × List ℕ) → Bool
is_cross_origin fields =
    list_any (is_word cross_site) (values_of sec_fetch_site fields)
    || not (is_same_origin (values_of host fields) (values_of origin fields))
