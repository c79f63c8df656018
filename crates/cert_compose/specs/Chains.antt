-- Three libraries, and the certificates that each of the later two may replace the one before it.
use Rattle.abi_types.specs.declared.library.Marks.{Marks}
use Rattle.abi_types.specs.Graphs.{IsGraph}
use Rattle.abi_types.specs.Libraries.{PlainLibrary, IsLibrary}
use Rattle.cert_text.specs.Certs.{PlainCert, IsCert}
use Rattle.cert_check.specs.Compatible.{Sides, sides}
use Rattle.cert_check.specs.Accepted.{Case, IsAccepted}
use Rattle.cert_check.specs.Unmarked.{MarkNothing, empty_marks}

-- `marks` are the marks of the first library, and `onward` those of the middle one
pub record PlainChain : Type 0 where
  pub first : PlainLibrary
  pub middle : PlainLibrary
  pub last : PlainLibrary
  pub marks : Marks
  pub onward : Marks
  pub one : PlainCert
  pub other : PlainCert

-- the pairs of libraries: first and middle, middle and last, first and last
abbrev pub near : PlainChain → Sides
near ch = sides ch.first ch.middle ch.marks

abbrev pub next : PlainChain → Sides
next ch = sides ch.middle ch.last ch.onward

abbrev pub far : PlainChain → Sides
far ch = sides ch.first ch.last ch.marks

abbrev pub near_case : PlainChain → Case
near_case ch = record { sides = near ch; cert = ch.one }

abbrev pub next_case : PlainChain → Case
next_case ch = record { sides = next ch; cert = ch.other }

abbrev pub far_case : PlainChain → PlainCert → Case
far_case ch c = record { sides = far ch; cert = c }

-- what the types of libraries, graphs and certificates guarantee; also, nothing is marked, and both certificates are accepted
pub record IsChain (ch : PlainChain) : Type 0 where
  pub first_library : IsLibrary ch.first.exports ch.first.graph
  pub middle_library : IsLibrary ch.middle.exports ch.middle.graph
  pub first_graph : IsGraph ch.first.graph
  pub middle_graph : IsGraph ch.middle.graph
  pub last_graph : IsGraph ch.last.graph
  pub one_cert : IsCert ch.one
  pub other_cert : IsCert ch.other
  pub marks : MarkNothing ch.marks
  pub onward : MarkNothing ch.onward
  pub one : IsAccepted (near_case ch)
  pub other : IsAccepted (next_case ch)

-- three libraries and their certificates, where nothing is marked
abbrev pub joint : PlainLibrary → PlainLibrary → PlainLibrary → PlainCert → PlainCert → PlainChain
joint first middle last one other = record {
  first = first;
  middle = middle;
  last = last;
  marks = empty_marks one.rules_digest;
  onward = empty_marks other.rules_digest;
  one = one;
  other = other;
}
