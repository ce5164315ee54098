use Rattle.std.proofs.Common.{IfErr, sym, refl, ap, ◌∙◌, subst}
use Rattle.text.specs.declared.words.Kind.TheVariants.{Order}
use Rattle.book.specs.Book.{Judge, Total, Accepted}
use Rattle.calls.specs.declared.answer.Given.TheVariants.{Accepted as AcceptedGiven, Receipt, Found}
use Rattle.calls.specs.declared.fault.Fault.TheVariants as fault
use Rattle.calls.specs.Codes.{kind_in, IsOfKind, TellsKind}
use Rattle.calls.specs.Held.{book_in, Replies}
use Rattle.calls.specs.Said.{call_said, Totalling, judge_answer}
use Rattle.calls.proofs.Checkers.{continues, replies}
use Rattle.calls.proofs.Codes.{of_entities, of_contracts, of_identifying, of_ending, coded, kind_untold, kind_told}
use Rattle.calls.proofs.Moves.{total_step}
use Rattle.calls.proofs.checker.Checker.call.Goals as goal
use Rattle.calls.proofs.checker.Checker.call.Goals.{in-AddEntity, in-AddContract, in-NameFile+in_ok-answer-in-NameFile, in-Identify, in-Withdraw, in-Close, in-Judge, in-LookUp}

pub returns-in-Total-clause-follows : goal.returns-in-Total-clause-follows
returns-in-Total-clause-follows g c =
    let m = g.M.Measure in
    let was = c.args.self.now in
    subst (λ x. Replies m was (call_said x) (Totalling c.copied.result) was) (sym c.in-Total.is)
    (λ capacity past f.
    let goes = continues m was was Total Accepted (total_step m (book_in was) was.register.total) capacity past f in
    (ap Totalling (c.copied.ensures ∙ c.total.ensures.told ∙ f.sums), goes.1))

pub returns-clause-follows : goal.returns-clause-follows
returns-clause-follows g c =
    let m = g.M.Measure in
    let was = c.args.self.now in
    elim c.match-call.branch [
      | in-AddEntity w ↦ replies m was w.in-AddEntity.is (λ y t. refl) w.answer-is w.of_entity-answer.ensures.answer w.self-is w.add_entity.ensures.follows
      | in-AddContract w ↦ replies m was w.in-AddContract.is (λ y t. refl) w.answer-is w.of_contract-answer.ensures.answer w.self-is w.add_contract.ensures.follows
      | in-NameFile+in_ok-answer-in-NameFile w ↦
          replies m was w.in-NameFile.is (λ y t. refl) w.answer-is refl w.self-is w.in_ok-answer-in-NameFile.ensures.follows
      | in-Identify w ↦ replies m was w.in-Identify.is (λ y t. refl) w.answer-is w.of_identifying-answer.ensures.answer w.self-is w.identify_at.ensures
      | in-Withdraw w ↦ replies m was w.in-Withdraw.is (λ y t. refl) w.answer-is w.of_ending-answer.ensures.answer w.self-is w.withdraw_at.ensures
      | in-Close w ↦ replies m was w.in-Close.is (λ y t. refl) w.answer-is w.of_ending-answer-in-Close.ensures.answer w.self-is w.close_at.ensures
      | in-Judge w ↦
          replies m was w.in-Judge.is (λ y t. refl) w.answer-is w.of_judging-answer.ensures.answer w.self-is
          (continues m was w.judge_at.new.self (Judge w.in-Judge.number w.in-Judge.line.now) (judge_answer w.judge_at.result) w.judge_at.ensures.step)
      | in-LookUp w ↦ replies m was w.in-LookUp.is (λ y t. refl) w.answer-is w.of_finding-answer.ensures.answer w.self-is w.look_up.ensures.follows
    ]

pub returns-clause-code : goal.returns-clause-code
returns-clause-code g c =
    elim c.match-call.branch [
      | in-AddEntity w ↦ coded w.in-AddEntity.is w.answer-is w.of_entity-answer.ensures.answer (w.of_entity-answer.ensures.code ∙ of_entities Order w.add_entity.result)
      | in-AddContract w ↦ coded w.in-AddContract.is w.answer-is w.of_contract-answer.ensures.answer (w.of_contract-answer.ensures.code ∙ of_contracts Order w.add_contract.result)
      | in-NameFile+in_ok-answer-in-NameFile w ↦ coded w.in-NameFile.is w.answer-is refl (w.in_ok-answer-in-NameFile.ensures.code Order)
      | in-Identify w ↦ coded w.in-Identify.is w.answer-is w.of_identifying-answer.ensures.answer (w.of_identifying-answer.ensures.code ∙ of_identifying Order w.identify_at.result)
      | in-Withdraw w ↦ coded w.in-Withdraw.is w.answer-is w.of_ending-answer.ensures.answer (w.of_ending-answer.ensures.code ∙ of_ending Order w.withdraw_at.result)
      | in-Close w ↦ coded w.in-Close.is w.answer-is w.of_ending-answer-in-Close.ensures.answer (w.of_ending-answer-in-Close.ensures.code ∙ of_ending Order w.close_at.result)
      | in-Judge w ↦ coded w.in-Judge.is w.answer-is w.of_judging-answer.ensures.answer (w.of_judging-answer.ensures.code ∙ w.judge_at.ensures.code)
      | in-LookUp w ↦ coded w.in-LookUp.is w.answer-is w.of_finding-answer.ensures.answer (w.of_finding-answer.ensures.code ∙ w.look_up.ensures.code)
    ]

pub returns-clause-kind : goal.returns-clause-kind
returns-clause-kind g c =
    let k = kind_in (call_said c.args.call.now) in
    elim c.match-call.branch [
      | in-AddEntity w ↦ kind_untold k (λ _. AcceptedGiven) fault.Entity (λ _. tt) w.add_entity.result (w.answer-is ∙ w.of_entity-answer.ensures.whole)
      | in-AddContract w ↦ kind_untold k (λ _. AcceptedGiven) fault.Contract (λ _. tt) w.add_contract.result (w.answer-is ∙ w.of_contract-answer.ensures.whole)
      | in-NameFile+in_ok-answer-in-NameFile w ↦ subst (TellsKind k) (sym w.answer-is) (w.in_ok-answer-in-NameFile.ensures.kinds k)
      | in-Identify w ↦ kind_untold k (λ _. AcceptedGiven) fault.Identify (λ _. tt) w.identify_at.result (w.answer-is ∙ w.of_identifying-answer.ensures.whole)
      | in-Withdraw w ↦ kind_untold k Receipt fault.Place (λ _. tt) w.withdraw_at.result (w.answer-is ∙ w.of_ending-answer.ensures.whole)
      | in-Close w ↦ kind_untold k Receipt fault.Place (λ _. tt) w.close_at.result (w.answer-is ∙ w.of_ending-answer-in-Close.ensures.whole)
      | in-Judge w ↦
          kind_told k w.judge_at.result (w.answer-is ∙ w.of_judging-answer.ensures.whole)
          (subst (λ x. IfErr w.judge_at.result (IsOfKind (kind_in (call_said x)))) (sym w.in-Judge.is) w.judge_at.ensures.kind)
      | in-LookUp w ↦ kind_untold k Found fault.LookUp (λ _. tt) w.look_up.result (w.answer-is ∙ w.of_finding-answer.ensures.whole)
    ]
