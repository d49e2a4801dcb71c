-- What acceptance rests on: which bytes are a document, the limits, and the tape of a document. To be read in this
-- order.
pub mod Bytes
pub mod Document
pub mod Patterns
pub mod Numbers
pub mod Integers
pub mod Strings
pub mod Grammar
pub mod Limits
pub mod Nodes
pub mod Listing
-- What faults rest on: which error an input has that is not accepted, and where. To be read in this order.
pub mod Derivatives
pub mod Positions
pub mod Faults
pub mod InputFaults
pub mod AtomAt
pub mod NumberAt
pub mod StringAt
pub mod Tokens
pub mod Descent
pub mod Answer
-- What is said besides of errors, and of the values and the printed text of a document.
pub mod ErrorKinds
pub mod FaultKinds
pub mod NodeTypes
pub mod StaticNodes
pub mod Views
pub mod Equality
pub mod MapEquality
pub mod Accessors
pub mod Printed
-- Of JSON Pointers.
pub mod Pointed
pub mod PointedText
pub mod Followed
pub mod Led
-- Where tokens end, and the headers of a listing. They serve proofs, and a law of each.
pub mod TokensAlong
pub mod Headers
-- The lines of a stream, each a document of its own.
pub mod Pieces
