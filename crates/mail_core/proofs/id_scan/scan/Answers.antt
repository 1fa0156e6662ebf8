use Rattle.std.proofs.Common.{◌≡◌, ℕ, ◌+◌, ◌++◌, ◌∷◌, [], ◌∙◌, ap, sym, arith, List, take, drop, length, append_assoc, append-nil, length-append, take_all}
use Rattle.std.proofs.lemmas.List.{take_at}
use Rattle.mail_core.specs.MsgIds.{MessageId, ids_of}
use Rattle.mail_core.proofs.QuoteLemmas.{later_at}
use Rattle.mail_core.proofs.ScanLemmas.{scan_comment, scan_open, scan_quote, scan_no_quote, scan_id, scan_no_id, scan_other, ids-past}
use Rattle.mail_core.proofs.id_scan.scan.Goals.{then-loop-at-test+else-len-most, else-loop-at-test}
use Rattle.mail_core.proofs.id_scan.scan.Goals as goal

pub loop-at-preserved-in-Some : goal.loop-at-preserved-in-Some
loop-at-preserved-in-Some c =
    let text : List ℕ = c.args.text.now in
    let v = c.loop-at.invariant in
    let x = rw (c.in-Some.is, v.comments) at c.in_ok-end.ensures.end in record {
      place = x.1;
      few = v.few;
      comments = c.in_ok-end.ensures.same ∙ v.comments;
      told = ap (λ (l : List MessageId). c.loop-at.found ++ l) (sym (scan_comment text c.loop-at.at c.in-Some.end c.loop-at-test.true c.if-byte-eq40.true (omega (arith, x.0)) x.1 x.2)) ∙ v.told;
      open_quote = λ q. let w = v.open_quote q in (w.0, omega (arith, w.1, x.0), w.2);
    }

pub loop-at-preserved-in-None : goal.loop-at-preserved-in-None
loop-at-preserved-in-None c =
    let v = c.loop-at.invariant in
    let x = rw (c.in-None.is, v.comments) at c.in_ok-end.ensures.end in record {
      place = omega arith;
      few = v.few;
      comments = c.in_ok-end.ensures.same ∙ v.comments;
      told = ap (λ (l : List MessageId). c.loop-at.found ++ l) (sym (scan_open c.args.text.now c.loop-at.at c.loop-at-test.true c.if-byte-eq40.true x)) ∙ v.told;
      open_quote = λ q. let w = v.open_quote q in (w.0, omega (arith, w.1), w.2);
    }

pub loop-at-preserved-in-Some-quote_end : goal.loop-at-preserved-in-Some-quote_end
loop-at-preserved-in-Some-quote_end c =
    let v = c.loop-at.invariant in
    let x = c.in-Some-quote_end.ensures in record {
      place = omega (arith, x.1);
      few = v.few;
      comments = v.comments;
      told = ap (λ (l : List MessageId). c.loop-at.found ++ l) (sym (scan_quote c.args.text.now c.loop-at.at c.in-Some-quote_end.end c.loop-at-test.true c.if-byte-eq34.true
          (omega (arith, x.0)) x.1 x.2)) ∙ v.told;
      open_quote = λ q. let w = v.open_quote q in (w.0, omega (arith, w.1, x.0), w.2);
    }

pub loop-at-preserved-in-None-quote_end : goal.loop-at-preserved-in-None-quote_end
loop-at-preserved-in-None-quote_end c =
    let v = c.loop-at.invariant in
    let x = c.in-None-quote_end.ensures in record {
      place = omega arith;
      few = v.few;
      comments = v.comments;
      told = ap (λ (l : List MessageId). c.loop-at.found ++ l) (sym (scan_no_quote c.args.text.now c.loop-at.at c.loop-at-test.true c.if-byte-eq34.true x)) ∙ v.told;
      open_quote = λ q. (c.loop-at.at + 1, omega arith, x);
    }

pub loop-at-preserved-else-quotes_end : goal.loop-at-preserved-else-quotes_end
loop-at-preserved-else-quotes_end c =
    let v = c.loop-at.invariant in
    let w = v.open_quote c.if-quotes_end.false in
    let x = later_at c.args.text.now w.0 c.loop-at.at w.1 c.loop-at-test.true c.if-byte-eq34.true w.2 in record {
      place = omega arith;
      few = v.few;
      comments = v.comments;
      told = ap (λ (l : List MessageId). c.loop-at.found ++ l) (sym (scan_no_quote c.args.text.now c.loop-at.at c.loop-at-test.true c.if-byte-eq34.true x)) ∙ v.told;
      open_quote = λ q. (c.loop-at.at + 1, omega arith, x);
    }

pub loop-at-preserved-in-Some-2 : goal.loop-at-preserved-in-Some-2
loop-at-preserved-in-Some-2 c =
    let v = c.loop-at.invariant in
    let x = rw c.in-Some-2.is at c.in_ok-end-2.ensures.found in record {
      place = omega (arith, x.end_in_range);
      few = omega (arith, ap length x.appends_id, length-append c.loop-at.found (x.id ∷ []), c.if-len-most.true, c.len.ensures);
      comments = v.comments;
      told =
          ap (λ (l : List MessageId). l ++ ids_of (drop c.in-Some-2.end c.args.text.now)) x.appends_id
          ∙ append_assoc c.loop-at.found (x.id ∷ []) (ids_of (drop c.in-Some-2.end c.args.text.now))
          ∙ ap (λ (l : List MessageId). c.loop-at.found ++ l) (sym (scan_id c.args.text.now c.loop-at.at c.in-Some-2.end x.id c.loop-at-test.true c.if-byte-eq60.true x.from_before_end
          x.end_in_range x.read_is))
          ∙ v.told;
      open_quote = λ q. let w = v.open_quote q in (w.0, omega (arith, w.1, x.from_before_end), w.2);
    }

pub loop-at-preserved-in-None-2 : goal.loop-at-preserved-in-None-2
loop-at-preserved-in-None-2 c =
    let v = c.loop-at.invariant in
    let x = rw c.in-None-2.is at c.in_ok-end-2.ensures.none in record {
      place = omega arith;
      few = omega (arith, ap length x.1, v.few);
      comments = v.comments;
      told =
          ap (λ (l : List MessageId). l ++ ids_of (drop (c.loop-at.at + 1) c.args.text.now)) x.1
          ∙ ap (λ (l : List MessageId). c.loop-at.found ++ l) (sym (scan_no_id c.args.text.now c.loop-at.at c.loop-at-test.true c.if-byte-eq60.true x.0)) ∙ v.told;
      open_quote = λ q. let w = v.open_quote q in (w.0, omega (arith, w.1), w.2);
    }

pub loop-at-preserved : goal.loop-at-preserved
loop-at-preserved c = let v = c.loop-at.invariant in record {
  place = omega arith;
  few = v.few;
  comments = v.comments;
  told = ap (λ (l : List MessageId). c.loop-at.found ++ l) (sym (scan_other c.args.text.now c.loop-at.at c.loop-at-test.true c.if-byte-eq40.false c.if-byte-eq34.false c.if-byte-eq60.false)) ∙ v.told;
  open_quote = λ q. let w = v.open_quote q in (w.0, omega (arith, w.1), w.2);
}

pub returns : goal.returns
returns c =
    let text : List ℕ = c.args.text.now in
    let v = c.loop-at.invariant in
    elim c.loop-at-test.branch [
      | else-loop-at-test w ↦
          let past = w.loop-at-test.false in
          let all : c.loop-at.found ≡ ids_of text =
          sym (append-nil c.loop-at.found) ∙ ap (λ (l : List MessageId). c.loop-at.found ++ l) (sym (ids-past text c.loop-at.at past)) ∙ v.told in
          all ∙ sym (take_all c.args.most (ids_of text) (omega (arith, v.few, ap length all)))
      | then-loop-at-test+else-len-most w ↦
          let enough = w.if-len-most.false in
          sym (take_at c.loop-at.found (ids_of (drop c.loop-at.at text)) c.args.most (omega (arith, v.few, enough)))
          ∙ ap (take c.args.most) v.told
    ]
