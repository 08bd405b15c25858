-- What the contract of the step cites: the rule of document 01, the code's record that shows the rule's, and the answer with its causes of refusal.
pub mod Rule
pub mod Regular
pub mod Shown
pub mod Votes
pub mod Answer
pub mod Channel
pub mod Unheard
pub mod SaidCounts
