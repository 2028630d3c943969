-- What the server keeps of a head, and what it finds at the front of a stream.
use Rattle.std.specs.Prelude.{◌≡◌, ℕ, ◌<◌, ◌≤◌, List, length}
use Rattle.httparse.specs.Grammar.{RequestHead, print_request, ReadsRequest}
use Rattle.web_messages.specs.declared.head.Head.{Head}
use Rattle.web_messages.specs.declared.head.Judged.{Judged}
use Rattle.web_messages.specs.declared.head.Judged.TheVariants.{Whole, Long, Bad, Open}
use Rattle.web_messages.specs.Routes.{route_to, query_of}
use Rattle.web_messages.specs.Fields.{fields_of, body_length, closes}
use Rattle.web_messages.specs.Streams.{IsBad, IsOpen, most_fields}

-- what a head says of its message
abbrev pub facts_of : RequestHead → Head
facts_of h = record {
  length = length (print_request h);
  route = route_to h;
  query = query_of h.target;
  said = body_length (fields_of h);
  closing = closes h;
}

-- what some bytes were judged to be
abbrev pub JudgedSo : List ℕ → Judged → Type 0
JudgedSo bytes (Whole head) =
    (h : RequestHead) × (more : List ℕ) × ReadsRequest bytes h more × (length h.fields ≤ most_fields) × (head ≡ facts_of h)
JudgedSo bytes Long = (h : RequestHead) × (more : List ℕ) × ReadsRequest bytes h more × (most_fields < length h.fields)
JudgedSo bytes Bad = IsBad bytes
JudgedSo bytes Open = IsOpen bytes
