use Rattle.std.proofs.Common.{◌≡◌, ◌≤◌, [], length, drop, ℕ, ◌==◌, not, Bool, true, false, List, refl, ap, ◌∙◌, sym, Some, None}
use Rattle.std.proofs.lemmas.List.{drop_all}
use Rattle.mail_core.specs.Lines.{content}
use Rattle.mbox_core.specs.Separator.{separator_of}
use Rattle.mbox_core.specs.Division.{is_blank_line}
use Rattle.mbox_stream.specs.Stream.{settled_bytes}
use Rattle.mbox_stream.proofs.WindowLemmas.{settled_nil}
use Rattle.mbox_stream.proofs.FindLemmas.{found_line, found_no_line}
use Rattle.mbox_stream.proofs.FirstLemmas.{blanks_start, blanks_more, passed, opening, faulty}
use Rattle.mbox_stream.proofs.finding.find_first.Goals as goal

some_not : (b : Bool) → not b ≡ true → b ≡ false
some_not true h = sym h
some_not false h = refl

none_not : (b : Bool) → not b ≡ false → b ≡ true
none_not true h = refl
none_not false h = sym h

nothing_left : (bytes : List ℕ) (at : ℕ) → length bytes ≤ at → settled_bytes (drop at bytes) ≡ []
nothing_left bytes at h = ap settled_bytes (drop_all at bytes h) ∙ settled_nil

pub loop-at-init : goal.loop-at-init
loop-at-init c = blanks_start c.args.bytes.now

pub returns-in-None-clause-blank : goal.returns-in-None-clause-blank
returns-in-None-clause-blank c =
    passed c.args.bytes.now c.loop-at.at c.loop-at.invariant (found_no_line c.args.bytes.now c.split_at.result.1.now c.loop-at.at c.split_at.ensures.back c.in-None.ensures)

pub returns-clause-blank : goal.returns-clause-blank
returns-clause-blank c = passed c.args.bytes.now c.loop-at.at c.loop-at.invariant (nothing_left c.args.bytes.now c.loop-at.at c.loop-at-test.false)

pub returns-in-Some-separator-clause-head : goal.returns-in-Some-separator-clause-head
returns-in-Some-separator-clause-head c =
    let line = c.split_at-in-loop-at.result.0.now in
    let l = found_line c.args.bytes.now c.split_at.result.1.now line c.loop-at.at c.in-Some.end c.split_at.ensures.back c.split_at-in-loop-at.ensures.front c.in-Some.ensures in
    let says : separator_of (content line) ≡ Some c.in-Some-separator.envelope = ap separator_of (sym c.line_content-content.ensures) ∙ sym c.in-Some-separator.ensures.value in
    opening c.args.bytes.now c.loop-at.at c.in-Some.end c.loop-at.invariant line l.is l.long l.alone l.ended c.in-Some-separator.envelope says

pub returns-in-None-separator-clause-faulty : goal.returns-in-None-separator-clause-faulty
returns-in-None-separator-clause-faulty c =
    let line = c.split_at-in-loop-at.result.0.now in
    let l = found_line c.args.bytes.now c.split_at.result.1.now line c.loop-at.at c.in-Some.end c.split_at.ensures.back c.split_at-in-loop-at.ensures.front c.in-Some.ensures in
    let says : separator_of (content line) ≡ None = ap separator_of (sym c.line_content-content.ensures) ∙ sym c.in-None-separator.ensures.value in
    let blank : is_blank_line line ≡ c.is_empty.result = ap (λ x. length x == 0) (sym c.line_content-content.ensures) ∙ sym c.is_empty.ensures in
    faulty c.args.bytes.now c.loop-at.at c.in-Some.end c.loop-at.invariant line l.is l.long l.alone l.ended (blank ∙ c.if-not-is_empty.true) says

pub loop-at-preserved : goal.loop-at-preserved
loop-at-preserved c =
    let line = c.split_at-in-loop-at.result.0.now in
    let l = found_line c.args.bytes.now c.split_at.result.1.now line c.loop-at.at c.in-Some.end c.split_at.ensures.back c.split_at-in-loop-at.ensures.front c.in-Some.ensures in
    let blank : is_blank_line line ≡ c.is_empty.result = ap (λ x. length x == 0) (sym c.line_content-content.ensures) ∙ sym c.is_empty.ensures in
    blanks_more c.args.bytes.now c.loop-at.at c.in-Some.end c.loop-at.invariant line l.is l.long l.alone l.ended (blank ∙ c.if-not-is_empty.false)
