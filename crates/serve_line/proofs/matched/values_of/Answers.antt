use Rattle.std.proofs.Common.{refl}
use Rattle.serve_line.proofs.matched.values_of.Goals as goal

pub returns : goal.returns
returns c = rw (
  c.in_ok-store.ensures,
  c.in_ok-host.ensures,
  c.in_ok-port.ensures,
  c.in_ok-allow.ensures,
  c.in_ok-workers.ensures,
  c.in_ok-connections.ensures,
  c.asks_page-page.ensures,
) refl
