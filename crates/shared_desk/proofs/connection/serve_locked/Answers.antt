use Rattle.shared_desk.proofs.connection.serve_locked.Goals as goal

pub returns-clause-same : goal.returns-clause-same
returns-clause-same g c = c.serve_link.ensures.served.1.0

pub returns-clause-served : goal.returns-clause-served
returns-clause-served g c = let s = c.serve_link.ensures.served in (s.0, s.1.1, s.2, s.3, s.4)
