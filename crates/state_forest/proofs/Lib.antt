-- What each file proves, grouped by purpose. Crates above may cite those marked `pub`.

-- ---- Tests, and lists that are gathered
pub mod Bools  -- tests, and what holds of each element
pub mod ListsByRecord  -- what is gathered record by record is a list of all, in order
-- ---- Records in order, found by halving: put, replaced, removed, counted
pub mod Places  -- where a number stands among records in order
pub mod Puts  -- one more record in its place
mod RecordsReplaced  -- a record in another's place
pub mod Removals  -- one record fewer, and the room that is left
pub mod ChangedRecords  -- what is found among records that were changed
mod ChangedCounts  -- how many records there are once they are changed
-- ---- Records on pages
mod PageOrder  -- where a number stands on pages in order
mod PageEdits  -- what changes in the list where one page is changed
mod PageEnds  -- where a record goes that comes behind all others
mod PageHalves  -- a full page whose upper half is moved to an empty one
mod PageWeights  -- what pages weigh, and the room that they leave
-- ---- Records are made of a set's facts
pub mod GiversOfNumbers  -- the facts that give an LRA's member numbers, in order
pub mod NumberedMembers  -- who has which member number
pub mod MembersAndStamps  -- the members and stamps of a record are those of its facts
mod RecordsSoFar  -- the records of the begins so far
pub mod OneListOfRecords  -- a set has one list of records of a home
pub mod RecordCounts  -- a set's list has as many records as LRAs are held
pub mod EqualRecords  -- `==` is true of equal records, and of no others
-- ---- The forest answers for its facts: parents, wants, statuses
pub mod RecordsOfASet  -- what is found among records that stand for a set
pub mod Begins  -- a begin names its LRA's parent
pub mod ParentsAndChains  -- a parent is of its child's home; a chain is an LRA and its parent's chain
mod WantsByParents  -- what an LRA wants, by its own decision and by its parent's want
pub mod UnderAnLra  -- what is under an LRA is what is under its members
mod SeenMembers  -- what is seen of one member, and of one more
pub mod ShownByMembers  -- going down the members comes to what the set says
mod Depths  -- how deep an LRA is nested, and how many numbers it gave
pub mod RecordsSayTheSet  -- wants, statuses and ends by records are the set's
pub mod ParticipantAnswers  -- what records say of a participant
pub mod ToldByChains  -- roots, and who is to forget or to hear of the end, up the chain
pub mod Overdue  -- the overdue LRA with the least number
-- ---- Duties, just what is due: to complete, to forget, to hear of the end
mod DueByRecord  -- what is due of a participant is what it owes by its record
mod OwedMembers  -- those of an LRA's members that owe something
pub mod DutiesOfAHome  -- the lists of a home are all that is due, in order
pub mod LeastDutyUnderARoot  -- the least of what is due under a root
-- ---- Saga order: who is to compensate next
pub mod Paths  -- the path of a participant from an LRA that it is under
mod LaterPaths  -- the lexicographic order of paths
mod GreatestByPath  -- the greatest of those with a property
mod LastInAWalk  -- the last element of a walk at which something is found
mod LastPending  -- the walk finds the last participant that is pending
pub mod SagaOrder  -- the last that is pending is the one that is due
pub mod CompensationUnderAnLra  -- what is due to compensate under one LRA
mod CompensationsByRecord  -- the compensations that are due, record by record
pub mod CompensationsOfAHome  -- the list of a home is all that is due to compensate
-- ---- Merge is a join: what is taken of another node's records
mod MemberMerges  -- the members of two records, merged
mod TakenRecords  -- what is brought, what is changed, and what is gone
pub mod OnlyWhatChanges  -- only what changes is put and removed, each once
mod ShapeOfAHome  -- whether a home has its shape with the changes
