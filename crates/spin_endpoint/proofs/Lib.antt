pub mod EndpointChanges
pub mod PieceCuts
pub mod ReceivedSends
pub mod RetiredEndpoints
