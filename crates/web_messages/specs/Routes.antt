-- Where the method and the target of a head lead.
use Rattle.std.specs.Prelude.{ℕ, Bool, true, false, List, ◌==◌, Option, Some, None, if◌then◌else◌, codes}
use Rattle.std.specs.List.{before_first, after_first}
use Rattle.std.specs.Str.{bytes_eq}
use Rattle.web_messages.specs.declared.refusal.Refusal.{Refusal}
use Rattle.web_messages.specs.declared.refusal.Refusal.TheVariants as refusal
use Rattle.web_messages.specs.declared.resource.Resource.{Resource}
use Rattle.web_messages.specs.declared.resource.Resource.TheVariants as resource
use Rattle.web_messages.specs.declared.route.PageRoute.{PageRoute}
use Rattle.web_messages.specs.declared.route.PageRoute.TheVariants as page
use Rattle.web_messages.specs.declared.route.Route.{Route}
use Rattle.web_messages.specs.declared.route.Route.TheVariants as route
use Rattle.httparse.specs.Grammar.{RequestHead}
use Rattle.web_messages.specs.Fields.{fields_of}
use Rattle.web_messages.specs.Origins.{is_cross_origin}
use Rattle.web_messages.specs.Paths.{resource_at}

-- a target is a path and, after the first question mark, a query
abbrev pub path_of : List ℕ → List ℕ
path_of target = before_first (λ b. b == 63) target

abbrev pub query_of : List ℕ → List ℕ
query_of target = after_first (λ b. b == 63) target

-- a route that is taken by this method alone
abbrev pub by_method : List ℕ → List ℕ → Route → Refusal → Route
by_method method wanted found refused = if bytes_eq method wanted then found else route.Refused refused

-- where a method leads at a path of the page, which this method alone takes, if the server has a page
abbrev pub page_by_method : List ℕ → List ℕ → PageRoute → Refusal → PageRoute
page_by_method method wanted found refused = if bytes_eq method wanted then found else page.Refused refused

-- where a method leads at what a path names
abbrev pub route_at : List ℕ → Option Resource → Route
route_at method None = route.Refused refusal.Path
route_at method (Some (resource.Report command)) = by_method method (codes "GET") (route.Report command) refusal.GetOnly
route_at method (Some resource.Download) = by_method method (codes "GET") route.Download refusal.GetOnly
route_at method (Some resource.Add) = by_method method (codes "POST") route.Add refusal.PostOnly
route_at method (Some resource.Edit) = by_method method (codes "POST") route.Edit refusal.PostOnly
route_at method (Some resource.Upload) = by_method method (codes "POST") route.Upload refusal.PostOnly
route_at method (Some resource.Import) = by_method method (codes "POST") route.Import refusal.PostOnly
route_at method (Some resource.Page) = route.Page (page_by_method method (codes "GET") page.Home refusal.GetOnly)
route_at method (Some resource.Check) = route.Page (page_by_method method (codes "POST") page.Check refusal.PostOnly)
route_at method (Some resource.Preview) = route.Page (page_by_method method (codes "POST") page.Preview refusal.PostOnly)

-- where a method and a path lead
abbrev pub route_of : List ℕ → List ℕ → Route
route_of method path = route_at method (resource_at path)

-- where a cross-origin request leads: one that reads is answered, one that posts is refused
abbrev pub page_from_elsewhere : PageRoute → PageRoute
page_from_elsewhere page.Check = page.Refused refusal.Origin
page_from_elsewhere page.Preview = page.Refused refusal.Origin
page_from_elsewhere other = other

abbrev pub from_elsewhere : Route → Route
from_elsewhere route.Add = route.Refused refusal.Origin
from_elsewhere route.Edit = route.Refused refusal.Origin
from_elsewhere route.Upload = route.Refused refusal.Origin
from_elsewhere route.Import = route.Refused refusal.Origin
from_elsewhere (route.Page found) = route.Page (page_from_elsewhere found)
from_elsewhere other = other

abbrev pub route_from : Bool → Route → Route
route_from true found = from_elsewhere found
route_from false found = found

-- where a head leads
abbrev pub route_to : RequestHead → Route
route_to h = route_from (is_cross_origin (fields_of h)) (route_of h.method (path_of h.target))
