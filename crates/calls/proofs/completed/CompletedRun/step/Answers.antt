use Rattle.std.proofs.Common.{vec_items, Ok, sym, refl, ap, ◌∙◌}
use Rattle.calls.specs.declared.answer.Given.TheVariants.{Accepted}
use Rattle.calls.specs.Held.{book_in}
use Rattle.calls.specs.Codes.{kind_in}
use Rattle.calls.specs.Said.{call_said, reply_said}
use Rattle.calls.proofs.Codes.{each_more, answered_code, answered_kind}
use Rattle.calls.proofs.Running.{goes_answered, goes_totalled}
use Rattle.calls.proofs.completed.CompletedRun.step.Goals as goal

pub returns-in_ok-push-in-Answered : goal.returns-in_ok-push-in-Answered
returns-in_ok-push-in-Answered g c capacity past f =
    let m = g.M.Measure in
    let was = c.args.self.now in
    let is = c.call.new.self in
    let goes = c.in_ok-answer.ensures.follows capacity past f.ran.follows in
    record {
      ran = goes_answered m capacity past (call_said c.args.call.now) (vec_items was.answers) (vec_items was.totals)
          (book_in was.checker) (book_in is) was.checker.register.total is.register.total c.in-Answered.answer (vec_items c.push.new.self)
          c.in_ok-push-in-Answered.ensures.items f.ran (sym (ap reply_said c.in-Answered.is) ∙ goes.0, goes.1);
      codes = each_more _ past (vec_items was.answers) (vec_items c.push.new.self) (call_said c.args.call.now) c.in-Answered.answer c.in_ok-push-in-Answered.ensures.items f.codes
          (answered_code (kind_in (call_said c.args.call.now)) c.in_ok-answer.field-0 c.in-Answered.answer c.in-Answered.is c.in_ok-answer.ensures.code);
      kinds = each_more _ past (vec_items was.answers) (vec_items c.push.new.self) (call_said c.args.call.now) c.in-Answered.answer c.in_ok-push-in-Answered.ensures.items f.kinds
          (answered_kind (kind_in (call_said c.args.call.now)) c.in_ok-answer.field-0 c.in-Answered.answer c.in-Answered.is c.in_ok-answer.ensures.kind);
    }

pub returns-in_ok-push-in-Total-2 : goal.returns-in_ok-push-in-Total-2
returns-in_ok-push-in-Total-2 g c capacity past f =
    let m = g.M.Measure in
    let was = c.args.self.now in
    let is = c.call.new.self in
    let goes = c.in_ok-answer.ensures.follows capacity past f.ran.follows in
    record {
      ran = goes_totalled m capacity past (call_said c.args.call.now) (vec_items was.answers) (vec_items was.totals)
          (book_in was.checker) (book_in is) was.checker.register.total is.register.total c.in-Total.total (Ok Accepted) (vec_items c.push-in-Total.new.self) (vec_items c.push-in-Total-2.new.self)
          refl c.in_ok-push-in-Total.ensures.items c.in_ok-push-in-Total-2.ensures.items f.ran (sym (ap reply_said c.in-Total.is) ∙ goes.0, goes.1);
      codes = each_more _ past (vec_items was.answers) (vec_items c.push-in-Total.new.self) (call_said c.args.call.now) (Ok Accepted) c.in_ok-push-in-Total.ensures.items f.codes refl;
      kinds = each_more _ past (vec_items was.answers) (vec_items c.push-in-Total.new.self) (call_said c.args.call.now) (Ok Accepted) c.in_ok-push-in-Total.ensures.items f.kinds tt;
    }
