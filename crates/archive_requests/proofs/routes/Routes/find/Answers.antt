-- The route of a path, from what the router found.
use Rattle.std.proofs.Common.{sym}
use Rattle.percent_encoding.specs.Percent.{percent_decode}
use Rattle.archive_requests.specs.Routes.{message, month, threads, thread, author, mbox}
use Rattle.archive_requests.proofs.MatchLemmas.{matched, missed, both, alone, not_gone}
use Rattle.archive_requests.proofs.routes.Routes.find.Goals as goal

pub returns-in_default : goal.returns-in_default
returns-in_default c = sym (missed _ c.type_inv.path (rw c.args.self.now.of_pages at c.in_default.ensures.missing))

pub returns-in-Lists : goal.returns-in-Lists
returns-in-Lists c =
    let m = matched _ c.utf8.path c.type_inv.path _ (rw c.args.self.now.of_pages at c.in-Ok.ensures.found) in
    let t = rw c.in-Lists.is at m.1 in
    sym t

pub returns-in_err-get-in-Message : goal.returns-in_err-get-in-Message
returns-in_err-get-in-Message c =
    let m = matched _ c.utf8.path c.type_inv.path _ (rw c.args.self.now.of_pages at c.in-Ok.ensures.found) in
    let t = rw c.in-Message.is at m.1 in
    let first = (rw (c.in-Ok.ensures.path, c.in_err-get-in-Message.was) at c.get.ensures) m.0 in
    absurd (not_gone _ _ first t.2)

pub returns-in_err-get-in-Message-2 : goal.returns-in_err-get-in-Message-2
returns-in_err-get-in-Message-2 c =
    let m = matched _ c.utf8.path c.type_inv.path _ (rw c.args.self.now.of_pages at c.in-Ok.ensures.found) in
    let t = rw c.in-Message.is at m.1 in
    let second = (rw (c.in-Ok.ensures.path, c.in_err-get-in-Message-2.was) at c.get-in-Message.ensures) m.0 in
    absurd (not_gone _ _ second t.3)

pub returns-in_ok-get-in-Message-2 : goal.returns-in_ok-get-in-Message-2
returns-in_ok-get-in-Message-2 c =
    let m = matched _ c.utf8.path c.type_inv.path _ (rw c.args.self.now.of_pages at c.in-Ok.ensures.found) in
    let t = rw c.in-Message.is at m.1 in
    let first = (rw (c.in-Ok.ensures.path, c.in_ok-get-in-Message.was) at c.get.ensures) m.0 in
    let second = (rw (c.in-Ok.ensures.path, c.in_ok-get-in-Message-2.was) at c.get-in-Message.ensures) m.0 in
    both message _ _ _ _ _ _ _ t.2 t.3 t.4 first second

pub returns-in_err-get-in-Month : goal.returns-in_err-get-in-Month
returns-in_err-get-in-Month c =
    let m = matched _ c.utf8.path c.type_inv.path _ (rw c.args.self.now.of_pages at c.in-Ok.ensures.found) in
    let t = rw c.in-Month.is at m.1 in
    let first = (rw (c.in-Ok.ensures.path, c.in_err-get-in-Month.was) at c.get-in-Month.ensures) m.0 in
    absurd (not_gone _ _ first t.2)

pub returns-in_err-get-in-Month-2 : goal.returns-in_err-get-in-Month-2
returns-in_err-get-in-Month-2 c =
    let m = matched _ c.utf8.path c.type_inv.path _ (rw c.args.self.now.of_pages at c.in-Ok.ensures.found) in
    let t = rw c.in-Month.is at m.1 in
    let second = (rw (c.in-Ok.ensures.path, c.in_err-get-in-Month-2.was) at c.get-in-Month-2.ensures) m.0 in
    absurd (not_gone _ _ second t.3)

pub returns-in_ok-get-in-Month-2 : goal.returns-in_ok-get-in-Month-2
returns-in_ok-get-in-Month-2 c =
    let m = matched _ c.utf8.path c.type_inv.path _ (rw c.args.self.now.of_pages at c.in-Ok.ensures.found) in
    let t = rw c.in-Month.is at m.1 in
    let first = (rw (c.in-Ok.ensures.path, c.in_ok-get-in-Month.was) at c.get-in-Month.ensures) m.0 in
    let second = (rw (c.in-Ok.ensures.path, c.in_ok-get-in-Month-2.was) at c.get-in-Month-2.ensures) m.0 in
    both month _ _ _ _ _ _ _ t.2 t.3 t.4 first second

pub returns-in_err-get-in-Thread : goal.returns-in_err-get-in-Thread
returns-in_err-get-in-Thread c =
    let m = matched _ c.utf8.path c.type_inv.path _ (rw c.args.self.now.of_pages at c.in-Ok.ensures.found) in
    let t = rw c.in-Thread.is at m.1 in
    let first = (rw (c.in-Ok.ensures.path, c.in_err-get-in-Thread.was) at c.get-in-Thread.ensures) m.0 in
    absurd (not_gone _ _ first t.2)

pub returns-in_err-get-in-Thread-2 : goal.returns-in_err-get-in-Thread-2
returns-in_err-get-in-Thread-2 c =
    let m = matched _ c.utf8.path c.type_inv.path _ (rw c.args.self.now.of_pages at c.in-Ok.ensures.found) in
    let t = rw c.in-Thread.is at m.1 in
    let second = (rw (c.in-Ok.ensures.path, c.in_err-get-in-Thread-2.was) at c.get-in-Thread-2.ensures) m.0 in
    absurd (not_gone _ _ second t.3)

pub returns-in_ok-get-in-Thread-2 : goal.returns-in_ok-get-in-Thread-2
returns-in_ok-get-in-Thread-2 c =
    let m = matched _ c.utf8.path c.type_inv.path _ (rw c.args.self.now.of_pages at c.in-Ok.ensures.found) in
    let t = rw c.in-Thread.is at m.1 in
    let first = (rw (c.in-Ok.ensures.path, c.in_ok-get-in-Thread.was) at c.get-in-Thread.ensures) m.0 in
    let second = (rw (c.in-Ok.ensures.path, c.in_ok-get-in-Thread-2.was) at c.get-in-Thread-2.ensures) m.0 in
    both thread _ _ _ _ _ _ _ t.2 t.3 t.4 first second

pub returns-in_err-get-in-Author : goal.returns-in_err-get-in-Author
returns-in_err-get-in-Author c =
    let m = matched _ c.utf8.path c.type_inv.path _ (rw c.args.self.now.of_pages at c.in-Ok.ensures.found) in
    let t = rw c.in-Author.is at m.1 in
    let first = (rw (c.in-Ok.ensures.path, c.in_err-get-in-Author.was) at c.get-in-Author.ensures) m.0 in
    absurd (not_gone _ _ first t.2)

pub returns-in_err-get-in-Author-2 : goal.returns-in_err-get-in-Author-2
returns-in_err-get-in-Author-2 c =
    let m = matched _ c.utf8.path c.type_inv.path _ (rw c.args.self.now.of_pages at c.in-Ok.ensures.found) in
    let t = rw c.in-Author.is at m.1 in
    let second = (rw (c.in-Ok.ensures.path, c.in_err-get-in-Author-2.was) at c.get-in-Author-2.ensures) m.0 in
    absurd (not_gone _ _ second t.3)

pub returns-in_ok-get-in-Author-2 : goal.returns-in_ok-get-in-Author-2
returns-in_ok-get-in-Author-2 c =
    let m = matched _ c.utf8.path c.type_inv.path _ (rw c.args.self.now.of_pages at c.in-Ok.ensures.found) in
    let t = rw c.in-Author.is at m.1 in
    let first = (rw (c.in-Ok.ensures.path, c.in_ok-get-in-Author.was) at c.get-in-Author.ensures) m.0 in
    let second = (rw (c.in-Ok.ensures.path, c.in_ok-get-in-Author-2.was) at c.get-in-Author-2.ensures) m.0 in
    both (λ list who. author list (percent_decode who)) _ _ _ _ _ _ _ t.2 t.3 t.4 first second

pub returns-in_err-get-in-Threads : goal.returns-in_err-get-in-Threads
returns-in_err-get-in-Threads c =
    let m = matched _ c.utf8.path c.type_inv.path _ (rw c.args.self.now.of_pages at c.in-Ok.ensures.found) in
    let t = rw c.in-Threads.is at m.1 in
    let first = (rw (c.in-Ok.ensures.path, c.in_err-get-in-Threads.was) at c.get-in-Threads.ensures) m.0 in
    absurd (not_gone _ _ first t.1)

pub returns-in_ok-get-in-Threads : goal.returns-in_ok-get-in-Threads
returns-in_ok-get-in-Threads c =
    let m = matched _ c.utf8.path c.type_inv.path _ (rw c.args.self.now.of_pages at c.in-Ok.ensures.found) in
    let t = rw c.in-Threads.is at m.1 in
    let first = (rw (c.in-Ok.ensures.path, c.in_ok-get-in-Threads.was) at c.get-in-Threads.ensures) m.0 in
    alone threads _ _ _ _ t.1 t.2 first

pub returns-in_err-get-in-Mbox : goal.returns-in_err-get-in-Mbox
returns-in_err-get-in-Mbox c =
    let m = matched _ c.utf8.path c.type_inv.path _ (rw c.args.self.now.of_pages at c.in-Ok.ensures.found) in
    let t = rw c.in-Mbox.is at m.1 in
    let first = (rw (c.in-Ok.ensures.path, c.in_err-get-in-Mbox.was) at c.get-in-Mbox.ensures) m.0 in
    absurd (not_gone _ _ first t.1)

pub returns-in_ok-get-in-Mbox : goal.returns-in_ok-get-in-Mbox
returns-in_ok-get-in-Mbox c =
    let m = matched _ c.utf8.path c.type_inv.path _ (rw c.args.self.now.of_pages at c.in-Ok.ensures.found) in
    let t = rw c.in-Mbox.is at m.1 in
    let first = (rw (c.in-Ok.ensures.path, c.in_ok-get-in-Mbox.was) at c.get-in-Mbox.ensures) m.0 in
    alone mbox _ _ _ _ t.1 t.2 first
