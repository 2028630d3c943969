-- What a browser may load for the page.
use Rattle.std.specs.Prelude.{◌≡◌, ℕ, ◌&&◌, ◌||◌, ◌==◌, nat_le, Bool, true, List, ◌++◌, codes}
use Rattle.std.specs.List.{list_all}
use Rattle.web_messages.specs.declared.page.Page.{Page}
use Rattle.web_messages.specs.declared.page.Page.TheVariants as pages

-- The policy of a page whose one script and one style have these SHA-256 digests: a browser runs no other script and applies no
-- other style, fetches from the page's own server alone, sends no form, resolves addresses against no other base, and shows the
-- page in no frame.
abbrev pub policy_of : List ℕ → List ℕ → List ℕ
policy_of script style =
    codes "default-src 'none'; connect-src 'self'; script-src 'sha256-" ++ script ++ codes "'; style-src 'sha256-" ++ style
    ++ codes "'; form-action 'none'; base-uri 'none'; frame-ancestors 'none'"

-- a byte of base64: a letter, a digit, '+', '/' or '='
abbrev pub is_base64 : ℕ → Bool
is_base64 b = (nat_le 65 b && nat_le b 90) || (nat_le 97 b && nat_le b 122) || (nat_le 47 b && nat_le b 57) || (b == 43) || (b == 61)

-- a digest is written in base64, so nothing in it ends its source or adds another
abbrev pub IsDigest : List ℕ → Type 0
IsDigest digest = list_all is_base64 digest ≡ true

-- The page has some text, with the policy of a script and a style.
pub record IsBuilt (page : Page) : Type 0 where
  pub text : List ℕ
  pub script : List ℕ
  pub style : List ℕ
  pub is : page ≡ pages.Shown text (policy_of script style)
  pub script_digest : IsDigest script
  pub style_digest : IsDigest style
