mod ActsAsked
pub mod AllCounted  -- a node that counts all that each other counted before counts all
mod AnswersInTheWorld
mod AnswersLeft
mod AnswersPurge
mod AskedInTheWorld
mod AskedOneWay
pub mod AtOtherNodes  -- what happens at another node leaves a node's front
mod CallOfOne
mod CallRoundsEnd
mod CallRoundsFall
mod CancelsAtHome
mod DiagramInTheWorld
mod DiagramPaths
mod DueInASaga
mod EachEdge
mod EdgesByEvent
mod EndsAccepted
mod EndsInTheWorld
mod Entering
mod Examples
pub mod FramesEnterNothing  -- frames and restarts leave the history as it was
mod Hearing
mod LastInOrder
pub mod LaterSets  -- what a closed set says of participants, a later one says too
mod ListedActs
mod LongestSaga
mod NeverRefused
mod OneMoreFact
mod OpenInAHistory
mod OpenUnder
mod ReportsEnd
mod RoundsExist
mod SagasAlone
mod SagasBackwards
mod SagasInTheWorld
pub mod TellingAtFirst  -- what two nodes hold at the start fits into frames
mod UnderWay
mod UntilPurged
