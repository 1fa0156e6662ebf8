-- Threads of one subject are gathered (RFC 5256, section 3, THREAD=REFERENCES, step 5), group by group.
--
-- The RFC walks twice over the threads below the root with a table of subjects. In step 5.B the table gets the first
-- thread of each subject; a later dummy replaces a message, and a later message that is no reply replaces a reply. So
-- before step 5.C the table has for each subject its first dummy; without a dummy, its first message that is no
-- reply; without such, its first reply. In step 5.C each other thread is merged with the table's:
--
--   both are dummies               its children go to the table's dummy
--   the table's alone is a dummy   it becomes a child of the dummy
--   it is a reply, the table's not it becomes a child of the table's message
--   otherwise                      a new dummy takes both, and is the table's from there on
--
-- What a thread meets there depends on the threads of its own subject alone, so each group has its result in closed form:
--
--   has a dummy                        the first dummy takes all others, other dummies by their children (first and second rule)
--   no dummy, one that is no reply     it takes all replies (third rule)
--   no dummy, two or more no replies   the first takes the replies before the second (third rule); the second makes a
--                                      new dummy over both (fourth rule), which takes all that follow (second rule)
--   replies alone, two or more         a new dummy over all (fourth rule, then the second)
--   one reply alone                    stays as it is
use Rattle.std.specs.Prelude.{ℕ, Bool, true, false, not, ◌==◌, List, [], ◌∷◌, ◌++◌, map, filter, flat_map, slice_get, bytes_eq}
use Rattle.std.specs.List.{list_any, before_first, after_first}
use Rattle.std.specs.Option.{option_map_or}
use Rattle.thread_links.specs.Links.{Link}
use Rattle.thread_core.specs.Forest.{tree_key_place, trees_of_dummy}
use Rattle.thread_links.specs.declared.entry.Entry.{Entry}
use Rattle.thread_core.specs.declared.tree.Tree.{Tree}
use Rattle.thread_core.specs.declared.tree.Tree.TheVariants.{Message, DummyOver}

abbrev pub base_subject_at : List Entry → ℕ → List ℕ
base_subject_at entries place = option_map_or (λ (entry : Entry). entry.base) (slice_get entries place) []

abbrev pub has_reply_subject : List Entry → ℕ → Bool
has_reply_subject entries place = option_map_or (λ (entry : Entry). entry.reply) (slice_get entries place) false

-- Step 5.B.i. "Find the subject of this thread, by using the base subject from either the current message or its
-- first child if the current message is a dummy. This is the thread subject."
abbrev pub thread_subject : List Entry → Tree → List ℕ
thread_subject entries tree = base_subject_at entries (tree_key_place entries tree)

-- a message, or the children of a dummy
abbrev pub messages_of_tree : Tree → List ℕ
messages_of_tree (Message place) = place ∷ []
messages_of_tree (DummyOver places) = places

-- a dummy is at the top of the tree, so the tree has no message there (RFC 5256, section 3)
abbrev pub is_dummy_tree : Tree → Bool
is_dummy_tree (Message place) = false
is_dummy_tree (DummyOver places) = true

-- What a group leaves at the top. `dummy` says that it has a dummy; `messages` are its messages and the children of
-- its dummies, in order; `plain` are those of them that are no replies.
abbrev pub trees_of_group : (dummy : Bool) (messages plain : List ℕ) → List Tree
trees_of_group true messages plain = DummyOver messages ∷ []
trees_of_group false messages [] = trees_of_dummy messages
trees_of_group false messages (first ∷ []) = Message first ∷ []
trees_of_group false messages (first ∷ second ∷ others) =
    DummyOver (first ∷ second ∷ after_first (λ place. place == second) messages) ∷ []

-- the messages of a group that become children of its first plain one: all replies, or those before the second plain one
abbrev pub merged_children_of_group : (dummy : Bool) (messages plain : List ℕ) → List ℕ
merged_children_of_group true messages plain = []
merged_children_of_group false messages [] = []
merged_children_of_group false messages (first ∷ []) = filter (λ place. not (place == first)) messages
merged_children_of_group false messages (first ∷ second ∷ others) =
    filter (λ place. not (place == first)) (before_first (λ place. place == second) messages)

-- as links under the first plain one
abbrev pub links_under_first : List ℕ → List ℕ → List Link
links_under_first [] children = []
links_under_first (first ∷ plain) children = map (λ child. (child, first)) children

-- the top trees, and the links of messages that were taken from the top
pub record MergedThreads : Type 0 where
  pub trees : List Tree
  pub links : List Link

abbrev pub non_replies : List Entry → List ℕ → List ℕ
non_replies entries places = filter (λ place. not (has_reply_subject entries place)) places

-- What step 5.C makes of one group, by its messages and the children of its dummies, in order, and whether it has a dummy.
abbrev pub threads_of_merged_group : List Entry → Bool → List ℕ → MergedThreads
threads_of_merged_group entries dummy messages =
    record {
      trees = trees_of_group dummy messages (non_replies entries messages);
      links = links_under_first (non_replies entries messages)
          (merged_children_of_group dummy messages (non_replies entries messages));
    }

-- what becomes of a group
abbrev pub merged_group : List Entry → List Tree → MergedThreads
merged_group entries group = threads_of_merged_group entries (list_any is_dummy_tree group) (flat_map messages_of_tree group)

-- a subject before others and no more among them, unless it is empty
abbrev pub with_subject : List ℕ → List (List ℕ) → List (List ℕ)
with_subject [] subjects = subjects
with_subject (b ∷ bs) subjects = (b ∷ bs) ∷ filter (λ other. not (bytes_eq (b ∷ bs) other)) subjects

-- each subject that is not empty, once, in the order of the first thread that has it
abbrev pub distinct_subjects : List (List ℕ) → List (List ℕ)
distinct_subjects [] = []
distinct_subjects (base ∷ subjects) = with_subject base (distinct_subjects subjects)

-- the trees with a subject
abbrev pub trees_with_subject : List Entry → List Tree → List ℕ → List Tree
trees_with_subject entries trees base = filter (λ tree. bytes_eq base (thread_subject entries tree)) trees

-- the groups of one subject that is not empty, each in the order of the trees
abbrev pub subject_groups : List Entry → List Tree → List (List Tree)
subject_groups entries trees = map (trees_with_subject entries trees) (distinct_subjects (map (thread_subject entries) trees))

-- Step 5.B.ii, 5.C.ii. "If the thread subject is empty, skip this message."
abbrev pub trees_without_subject : List Entry → List Tree → List Tree
trees_without_subject entries trees = trees_with_subject entries trees []

-- the trees below the root after step 5, given those before it in order of key
abbrev pub merged_trees : List Entry → List Tree → MergedThreads
merged_trees entries trees =
    let gathered = map (merged_group entries) (subject_groups entries trees) in
    record {
      trees = trees_without_subject entries trees ++ flat_map (λ (m : MergedThreads). m.trees) gathered;
      links = flat_map (λ (m : MergedThreads). m.links) gathered;
    }

-- The trees below the root, given those before step 5 in order of key: after it, or, where a mailbox leaves it out, as
-- they were.
-- profile: a list may be threaded without step 5, by its references alone.
abbrev pub merged_if_enabled : List Entry → (merge : Bool) → List Tree → MergedThreads
merged_if_enabled entries false trees = record { trees = trees; links = [] }
merged_if_enabled entries true trees = merged_trees entries trees
