use Rattle.std.proofs.Common.{length}
use Rattle.thread_links.specs.Containers.{container_count}
use Rattle.thread_links.specs.Links.{parent_of, links_of}
use Rattle.thread_core.specs.Threads.{threads_of}
use Rattle.luvazhimba_c.proofs.RowBounds.{rows_few}
use Rattle.luvazhimba_c.proofs.laws.rows_are_at_most_twice_the_messages.Goals as goal

pub returns : goal.returns
returns c = λ entries merge.
    rows_few (length entries) (threads_of entries merge)
    (c.dummies_have_two_children.ensures entries merge (container_count entries) (parent_of (links_of entries)))
    (c.each_message_is_in_one_row.ensures.step_one entries merge)
