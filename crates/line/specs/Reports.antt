-- What a report that was read says, as plain data.
use Rattle.std.specs.Prelude.{Ok, Err, Result}
use Rattle.text.specs.Listings.{listing}
use Rattle.text.specs.Rows.{Refusal}
use Rattle.line.specs.declared.faults.ReadFault.{ReadFault}
use Rattle.line.specs.declared.report.Report.{Report}
use Rattle.line.specs.Faults.{read_refusal}
use Rattle.line.specs.Lines.{Reported}

abbrev pub said : Report → Reported
said r = record {
  kind = r.kind;
  id = r.id.now;
  contract = r.contract.now;
  venue = r.venue.now;
  participant = r.participant.now;
  side = r.side;
  action = r.action;
  time = r.time;
  quantity = r.quantity;
  price = r.price;
  names = listing r.names;
}

abbrev pub said_in : Result Report ReadFault → Result Reported Refusal
said_in (Ok r) = Ok (said r)
said_in (Err e) = Err (read_refusal e)
