-- What cross-origin requests ask.
use Rattle.std.proofs.Common.{ℕ, List, [], ◌∷◌, Bool, true, Option, Some, None, Result, Ok, sym, subst, ◌≡◌}
use Rattle.std.specs.Prelude.{codes}
use Rattle.desk.specs.declared.request.Request.TheVariants.{Download}
use Rattle.httparse.specs.Grammar.{RequestHead}
use Rattle.report_options.specs.declared.command.Command.{Command}
use Rattle.web_messages.specs.declared.form.Parameter.{Parameter}
use Rattle.web_messages.specs.declared.page.Page.{Page}
use Rattle.web_messages.specs.declared.page.Page.TheVariants as pages
use Rattle.web_messages.specs.declared.route.PageRoute.{PageRoute}
use Rattle.web_messages.specs.declared.route.PageRoute.TheVariants as page_route
use Rattle.web_messages.specs.declared.route.Route.{Route}
use Rattle.web_messages.specs.declared.route.Route.TheVariants as route
use Rattle.web_messages.specs.Fields.{fields_of}
use Rattle.web_messages.specs.Forms.{parameters_of, all_values}
use Rattle.web_messages.specs.Origins.{is_cross_origin}
use Rattle.web_messages.specs.Routes.{route_of, path_of, query_of, from_elsewhere, page_from_elsewhere, route_from}
use Rattle.web_desk.specs.Calls.{OnlyReads, formed, if_none, report_of, or_own, call_at, call_of, page_at}

report_reads : (command : Command) (words : Option (List (List ℕ))) → OnlyReads (or_own (formed words (report_of command)))
report_reads command None = tt
report_reads command (Some words) = tt

download_reads : (ps : List Parameter) → OnlyReads (or_own (if_none ps (Ok Download)))
download_reads [] = tt
download_reads (p ∷ ps) = tt

-- at the paths of the page
page_reads : (page : Page) (found : PageRoute) (query body : List ℕ) → OnlyReads (page_at page (page_from_elsewhere found) query body)
page_reads pages.Absent found query body = tt
page_reads (pages.Shown text policy) page_route.Home query body = tt
page_reads (pages.Shown text policy) page_route.Check query body = tt
page_reads (pages.Shown text policy) page_route.Preview query body = tt
page_reads (pages.Shown text policy) (page_route.Refused refused) query body = tt

-- wherever a path and a method lead
elsewhere_reads : (page : Page) (found : Route) (query body : List ℕ) → OnlyReads (call_at page (from_elsewhere found) query body)
elsewhere_reads page (route.Report command) query body = report_reads command (all_values (codes "q") (parameters_of query))
elsewhere_reads page route.Download query body = download_reads (parameters_of query)
elsewhere_reads page route.Add query body = tt
elsewhere_reads page route.Edit query body = tt
elsewhere_reads page route.Upload query body = tt
elsewhere_reads page route.Import query body = tt
elsewhere_reads page (route.Page found) query body = page_reads page found query body
elsewhere_reads page (route.Refused refused) query body = tt

pub only_reads : (page : Page) (h : RequestHead) (body : List ℕ) → is_cross_origin (fields_of h) ≡ true → OnlyReads (call_of page h body)
only_reads page h body cross =
    let found = route_of h.method (path_of h.target) in
    let P : Bool → Type 0 = λ b. OnlyReads (call_at page (route_from b found) (query_of h.target) body) in
    subst P (sym cross) (elsewhere_reads page found (query_of h.target) body)
