-- `pdu_at` meets its contract. Assumes nothing.
use native.Mathlib.Omega.{arith}
use mathlib.Core.Path.{◌∙◌}
use lib.ListN.{length-set}
use Rattle.read_pdu.proofs.Pdus.{pdu_response, pdu_abort, pdu_request, pdu_alone}
use Rattle.read_pdu.proofs.pdu_at.Goals as goal
use Rattle.read_pdu.proofs.pdu_at.Goals.{then-in_structured+else-stands+else-stands-2, else-in_structured}

pub returns-then-stands : goal.returns-then-stands
returns-then-stands c = (search (pdu_response, c.response_at.ensures.0), c.response_at.ensures.1)

pub returns-then-stands-2 : goal.returns-then-stands-2
returns-then-stands-2 c = (search (pdu_abort, c.dialogue_abort_at.ensures.0), c.dialogue_abort_at.ensures.1)

pub returns : goal.returns
returns c = (elim c.if-in_structured.branch [ then-in_structured+else-stands+else-stands-2 w ↦ search (pdu_request, c.request_at.ensures.0) | else-in_structured w ↦ search (pdu_alone, c.request_at.ensures.0) ], c.request_at.ensures.1)
