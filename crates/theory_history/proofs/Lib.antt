-- What each file proves, grouped by purpose. Crates above may cite those marked `pub`.

-- ---- Small facts, and lists
pub mod Basics  -- small facts that several files use
pub mod ElementsByHome  -- the elements of a flat list by their homes
mod Prefixes  -- facts in order of numbers: when one list is the first part of another
pub mod ListsWithOneMore  -- a list with one more element
pub mod SameChains  -- when two sets have the same chains
-- ---- Fronts count sets
pub mod CountedByFronts  -- the front of a set with one more fact, and of none
pub mod Covered  -- what is begun is covered
pub mod JoinedFronts  -- joined fronts count the union
-- ---- Each closed set of a lawful history is settled
pub mod SettledFacts  -- what is asked of each fact of a settled set; a lawful fact meets it
mod StaysSettled  -- one more lawful fact keeps a set settled
pub mod ClosedSets  -- closed sets of lawful histories
pub mod OneMoreEntry  -- a history with one entry more
mod FewAtHome  -- a closed set holds at most 256 LRAs of each home
-- ---- A set has one view, and a view replies as its set
pub mod OneViewOfASet  -- a set has one front and one view
pub mod SameReadings  -- readings that tell the same make the same of a command
pub mod ViewReplies  -- what a view replies is what its set does
pub mod ReplyOrRefusal  -- the reply where a command is refused, and where it is accepted
pub mod AcceptedCommands  -- what a node knows of a command that it accepts
-- ---- A prepared patch adds exactly its fact
pub mod LeftAsItWas  -- what one more fact leaves as it was
pub mod OneMemberChanged  -- one member changed
mod NewRecords  -- the record of a new LRA
mod FactsOfRecords  -- the record that a decision, a join or a begin names
mod FactsOfMembers  -- the record that a leave, a report, a forgot or a told names
mod RecordsWithOneMore  -- the records of a home with one more fact
mod RecordsAfterAPurge  -- the records that a purge leaves
mod RemovedByPurge  -- the LRAs that a purge removes, by the records of a view
pub mod PatchesAddFacts  -- the patch adds exactly its fact
mod PatchesOnlyChange  -- it holds only what changes, each once
pub mod PatchedHistories  -- a patch that adds a command's fact, in the history with that entry
-- ---- Merge is a join
pub mod TwoClosedSets  -- two closed sets of one history, their fronts and their union
pub mod SetsToMerge  -- what a closed set keeps besides being settled
mod MergedLras  -- what is held and heard in the union
mod MergedMembers  -- the members of an LRA in the union
pub mod MergedRecords  -- the record of an LRA in the union
pub mod MergedViews  -- the merge of two views stands for the union
pub mod OneMerge  -- two views have one merge
pub mod MergeIsAJoin  -- the merge is a join
pub mod TellingNews  -- to take what is news of a view is to merge it
pub mod ViewsHaveShape  -- the views of closed sets have the shape
-- ---- Statuses only rise; no split verdict
pub mod Ranks  -- ranks rise as more is heard and wanted
pub mod RanksRise  -- the rank of what an LRA shows rises with the facts
pub mod Decisions  -- what a home enters of an LRA that wants something; an LRA is decided once
pub mod SplitVerdicts  -- where two sets differ, an ancestor was cancelled
mod EndsStay  -- what is at its end stays there
-- ---- Computed for a reader, and cited by nothing
mod HistoryExamples  -- a lawful history of three facts
mod MergeExamples  -- merges in which an outcome is heard, and a purged LRA stays away
mod ShapeExamples  -- two views of no one history, whose merge has lost the shape
